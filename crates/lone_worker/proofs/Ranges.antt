-- A position of a range is claimed and worked: how the work goes on, what it brings, and why it failed.
use Rattle.std.proofs.Common.{◌≡◌, ◌⊎◌, inl, inr, ℕ, zero, suc, ◌+◌, ◌<◌, ◌≤◌, Bool, true, false, ◌||◌, ◌&&◌, ◌==◌, List, [], ◌∷◌, ◌++◌, get_or, map, refl, sym, ap, subst, ◌∙◌, append_assoc, arith}
use Rattle.std.specs.Prelude.{◌↔◌, ◌≤ℤ◌, IsTrue, Option, Some, None, not, nat_le, slice_get}
use Rattle.std.specs.List.{All, list_any}
use Rattle.std.proofs.lemmas.Bool.{and_from, eq-eqb, false≢true}
use Rattle.std.proofs.lemmas.Bool.Decides.{nat_tests}
use Rattle.std.proofs.lemmas.List.Folds.{list_any_at}
use Rattle.std.proofs.lemmas.Option.{slice_get-get_or, slice_get_within}
use Rattle.beam_ports.specs.Files.{Opening}
use Rattle.beam_ports.specs.Observed.{ObservedStore}
use Rattle.beam_values.specs.Times.{greatest_time}
use Rattle.beam_values.specs.Tracking.{first_unattempted}
use Rattle.beam_values.specs.declared.arrival.Arrival.{Arrival}
use Rattle.beam_values.specs.declared.fault.FaultNote.{FaultNote}
use Rattle.beam_values.specs.declared.file_text.FileText.{FileText}
use Rattle.beam_values.specs.declared.piece.Piece.{Piece}
use Rattle.beam_values.specs.declared.plan.Plan.{Plan}
use Rattle.beam_values.proofs.Spreads.{spread-single}
use Rattle.beam_model.specs.Chains.{Arrives, Output}
use Rattle.beam_model.specs.Coverings.{AreDistinct, item_at, spread_of}
use Rattle.beam_model.specs.Positions.{Emission, Emits, Poison, SourceItem, emission, next_position}
use Rattle.beam_model.specs.Spread.{emission_outputs, is_poison, outputs_at as outputs_in, spread_range}
use Rattle.beam_model.proofs.Coverings.{plan_distinct}
use Rattle.book_core.specs.Changes.{cut_to}
use Rattle.book_core.specs.Work.{is_known, is_told, items_told, worked_to}
use Rattle.bundle_commit.specs.declared.job.Job.TheVariants as job
use Rattle.bundle_commit.specs.declared.job.Receipt.{Receipt}
use Rattle.chain_exec.specs.Causes.{ObservedShelf}
use Rattle.chain_exec.specs.Positions.{HasValue, IsNextOf, IsTimely, StoreCounts}
use Rattle.chain_exec.specs.Sources.{IsText}
use Rattle.chain_exec.specs.declared.position.Step.{Step}
use Rattle.chain_exec.specs.declared.refusal.ExecRefusal.{ExecRefusal}
use Rattle.sdf_library.specs.Paging.{Paged}
use Rattle.known_jobs.specs.Calls.{CanCommitAs, holds_end}
use Rattle.known_jobs.specs.Jobs.{KnownJob, Setting}
use Rattle.bundle_work.specs.Bundles.{HasClaimed, HasWorked, IsFit, IsJobRefused, IsPieceRefused, IsPieceWorked, IsRefusedAt, item_of}
use Rattle.bundle_work.specs.Reading.{AreReaders, AreReadersOf, IsPagerFor, IsReaderOf, is_reader_for, length_in}
use Rattle.bundle_work.specs.Stretches.{CanClaimFrom, IsWorkedOver, attempted_of, first_open}
use Rattle.bundle_work.specs.declared.reading.Reader.{Reader}
use Rattle.bundle_work.proofs.Claiming.{IsClaimOf, fresh_now}
use Rattle.bundle_work.proofs.Jobs.{job_given}
use Rattle.bundle_work.proofs.PieceReads.{IsPieceReader, end_honest, file_source, item_found, item_read, item_same, nothing_given, piece_given, piece_item, piece_source, read, reader_cut, reader_for, readers_hold}
use Rattle.bundle_work.proofs.PieceWork.{fit_more, staged_one, staged_then}
use Rattle.bundle_work.proofs.Stretching.{over_all}
use Rattle.lone_worker.specs.Work.{Base, IsEmittedWhere, IsFresh, IsGoing, IsNextAfter, IsNextIn, IsNextWhere, IsRangeFailed, IsRangeOf, IsRangeOver, IsRangeTried, IsSound, emits_value, has_value, nothing_staged, outputs_at}

-- ---- readers of one item

-- an item of distinct ones stands at one place
one_place : (items : List SourceItem) → AreDistinct items → (k j : ℕ) (x y : SourceItem) → slice_get items k ≡ Some x → slice_get items j ≡ Some y → x.node ≡ y.node → x.item ≡ y.item → k ≡ j
one_place [] distinct k j x y at there node item = absurd (cc)
one_place (other ∷ items) distinct zero zero x y at there node item = refl
one_place (other ∷ items) distinct zero (suc j) x y at there node item =
    let same : other ≡ x = cc in
    let found : item_at items y.node y.item ≡ Some y = item_found items distinct.1 j y there in
    let none : item_at items x.node x.item ≡ None = subst (λ (o : SourceItem). item_at items o.node o.item ≡ None) same distinct.0 in
    let never : None ≡ Some y = sym none ∙ ap (λ (n : ℕ). item_at items n x.item) node ∙ ap (λ (n : ℕ). item_at items y.node n) item ∙ found in
    absurd (cc)
one_place (other ∷ items) distinct (suc k) zero x y at there node item =
    let same : other ≡ y = cc in
    let found : item_at items x.node x.item ≡ Some x = item_found items distinct.1 k x at in
    let none : item_at items y.node y.item ≡ None = subst (λ (o : SourceItem). item_at items o.node o.item ≡ None) same distinct.0 in
    let never : None ≡ Some x = sym none ∙ ap (λ (n : ℕ). item_at items n y.item) (sym node) ∙ ap (λ (n : ℕ). item_at items x.node n) (sym item) ∙ found in
    absurd (cc)
one_place (other ∷ items) distinct (suc k) (suc j) x y at there node item = ap suc (one_place items distinct.1 k j x y at there node item)

module _ (opened : ℕ → Option Opening) (plan : Plan) (readers : List Reader) (are : AreReadersOf None opened plan (items_told None plan) readers) where
  -- so a piece has one reader
  one_reader : (piece : Piece) (k j : ℕ) (one other : Reader) → slice_get readers k ≡ Some one → slice_get readers j ≡ Some other → IsPieceReader piece one → IsPieceReader piece other → one ≡ other
  one_reader piece k j one other at there is also =
      let x = item_read None opened plan (items_told None plan) readers are k one at in
      let y = item_read None opened plan (items_told None plan) readers are j other there in
      let node : x.0.node ≡ y.0.node = sym x.2.at_node ∙ is.node ∙ sym also.node ∙ y.2.at_node in
      let item : x.0.item ≡ y.0.item = sym x.2.at_item ∙ is.item ∙ sym also.item ∙ y.2.at_item in
      let place : k ≡ j = one_place (items_told None plan) (plan_distinct [] plan) k j x.0 y.0 x.1 y.1 node item in
      let same : Some one ≡ Some other = sym at ∙ ap (slice_get readers) place ∙ there in
      cc

reader_of : (piece : Piece) (reader : Reader) → IsPieceReader piece reader → is_reader_for piece reader ≡ true
reader_of piece reader is =
    let reaches = is.reaches in
    let both : (reader.node == piece.node && reader.item == piece.item) ≡ true =
    and_from (reader.node == piece.node) (reader.item == piece.item) (eq-eqb reader.node piece.node is.node) (eq-eqb reader.item piece.item is.item) in
    let within : nat_le piece.range.to reader.len ≡ true = grind (arith, nat_tests) in
    and_from (reader.node == piece.node && reader.item == piece.item) (nat_le piece.range.to reader.len) both within

-- ---- what arrives is no poison

none_arrives : (arrivals : List Arrival) → list_any is_poison (map Arrives arrivals) ≡ false
none_arrives [] = refl
none_arrives (arrival ∷ arrivals) = none_arrives arrivals

pub none_behind : (xs ys : List Arrival) (outputs : List Output) → map Arrives ys ≡ map Arrives xs ++ outputs → list_any is_poison outputs ≡ false
none_behind [] ys outputs is = subst (λ (o : List Output). list_any is_poison o ≡ false) is (none_arrives ys)
none_behind (x ∷ xs) [] outputs is = absurd (cc)
none_behind (x ∷ xs) (y ∷ ys) outputs is = let rest : map Arrives ys ≡ map Arrives xs ++ outputs = cc in none_behind xs ys outputs rest

arrives_behind : (xs ys : List Arrival) (outputs : List Output) → map Arrives ys ≡ map Arrives xs ++ outputs → (more : List Arrival) × (ys ≡ xs ++ more)
arrives_behind [] ys outputs is = (ys, refl)
arrives_behind (x ∷ xs) [] outputs is = absurd (cc)
arrives_behind (x ∷ xs) (y ∷ ys) outputs is =
    let head : y ≡ x = cc in
    let tail : map Arrives ys ≡ map Arrives xs ++ outputs = cc in
    let rest = arrives_behind xs ys outputs tail in
    (rest.0, ap (λ (l : List Arrival). y ∷ l) rest.1 ∙ ap (λ (z : Arrival). z ∷ (xs ++ rest.0)) head)

-- a flag says whether there is a value
flag_is : (b : Bool) (e : Emission) → IsTrue b ↔ HasValue e → b ≡ has_value e
flag_is true (Emits [] declared) is = absurd (is.0 refl)
flag_is true (Emits (value ∷ values) declared) is = refl
flag_is true Poison is = absurd (is.0 refl)
flag_is false (Emits [] declared) is = refl
flag_is false (Emits (value ∷ values) declared) is = absurd (false≢true (is.1 tt))
flag_is false Poison is = refl

module _ (base : Base) (piece : Piece) where
  abbrev plan : Plan
  plan = base.setting.plan

  abbrev told : Option (List FileText)
  told = base.setting.known.told

  abbrev opening : Reader → Option Opening
  opening reader = base.opened reader.file

  -- one position was worked
  one_over : (len : ℕ) (at : Option Opening) (p : ℕ) (old new : Receipt) (step : Step) → HasWorked plan piece.node at len p old new step → p < step.next
      → ((emitted : Emission) → IsTimely emitted → All (IsFit plan piece.node) (emission_outputs plan piece.node emitted)) → IsWorkedOver plan at len piece p (p + 1) step.next old new
  one_over len at p old new step has rises fits =
      let behind = arrives_behind old.arrivals new.arrivals (emission_outputs plan piece.node has.emitted) has.worked.arrivals in
      record {
        first = omega arith;
        ordered = omega arith;
        told = λ source is text known.
            let emits = has.told source is text known in
            staged_one plan piece source text p step.next old new has.emitted step has.worked emits.0 emits.1;
        fit = λ fit. fit_more plan piece old new has.emitted step fit has.worked (fits has.emitted has.worked.timely);
        grows = record { more = behind.0; arrivals = behind.1; logged = has.worked.logged };
      }

  -- and then those from the next one on
  over_both : (len : ℕ) (at : Option Opening) (p upto middle after next : ℕ) (old mid new : Receipt) → IsWorkedOver plan at len piece p upto middle old mid → IsWorkedOver plan at len piece middle after next mid new
      → IsWorkedOver plan at len piece p after next old new
  over_both len at p upto middle after next old mid new front back = record {
    first = omega (arith, front.first, front.ordered, back.first);
    ordered = back.ordered;
    told = λ source is text known.
        staged_then plan piece source text p upto middle after next old mid new front.first front.ordered back.first (front.told source is text known) (back.told source is text known);
    fit = λ fit. back.fit (front.fit fit);
    grows = record {
      more = front.grows.more ++ back.grows.more;
      arrivals = back.grows.arrivals ∙ ap (λ (t : List Arrival). t ++ back.grows.more) front.grows.arrivals ∙ append_assoc old.arrivals front.grows.more back.grows.more;
      logged = back.grows.logged ∙ front.grows.logged;
    };
  }

  -- ---- what may be claimed

  can_fresh : (known : Option KnownJob) (next : ℕ) (staged : Receipt) → IsFresh piece known next staged → CanClaimFrom piece known next
  can_fresh known next staged fresh =
      let claimed = fresh.range.claimed in
      let now = fresh.range.now in
      let tried : None ≡ attempted_of known = sym (ap attempted_of claimed.is) in
      let begun : piece.range.from ≡ first_open piece known = ap (first_unattempted piece.range.from) tried in
      let from : now.range.from ≡ piece.range.from = ap (λ (x : Piece). x.range.from) claimed.same in
      record {
        fresh = fresh.fresh;
        now = now;
        claimed = subst (λ (a : Option ℕ). HasClaimed piece now a known) tried claimed;
        start = omega (arith, fresh.first);
        next = omega (arith, begun, fresh.first);
        within = omega (arith, begun, from, fresh.range.ordered);
      }

  can_going : (known : Option KnownJob) (next : ℕ) (staged : Receipt) → IsGoing base piece known next staged → CanClaimFrom piece known next
  can_going known next staged going =
      let claimed = going.range.claimed in
      let now = going.range.now in
      let tried : Some going.last ≡ attempted_of known = sym (ap attempted_of claimed.is) in
      let begun : going.last + 1 ≡ first_open piece known = ap (first_unattempted piece.range.from) tried in
      record {
        fresh = going.fresh;
        now = now;
        claimed = subst (λ (a : Option ℕ). HasClaimed piece now a known) tried claimed;
        start = omega (arith, going.worked.first, going.worked.ordered);
        next = omega (arith, begun, going.worked.ordered);
        within = omega (arith, begun, going.inside);
      }

  pub can_go : (known : Option KnownJob) (next : ℕ) (staged : Receipt) → IsFresh piece known next staged ⊎ IsGoing base piece known next staged → CanClaimFrom piece known next
  can_go known next staged (inl fresh) = can_fresh known next staged fresh
  can_go known next staged (inr going) = can_going known next staged going

  -- ---- after a claim

  -- a position was attempted
  pub tried : (was : Piece) (known : Option KnownJob) (p end : ℕ) (after : Option KnownJob) → IsClaimOf piece was known p end after → piece.range.from ≤ end → IsRangeTried piece after
  tried was known p end after made low =
      let from : made.now.range.from ≡ piece.range.from = ap (λ (x : Piece). x.range.from) made.claimed.same in
      record { last = p; range = record { now = made.now; claimed = made.claimed; ordered = omega (arith, from, made.ends, low) } }

  over_tried : (after : Option KnownJob) (staged : Receipt) → piece.spent ≡ None → IsRangeTried piece after → CanCommitAs base.setting after staged → IsRangeOver base piece.spent piece after staged
  over_tried after staged fresh is given = subst (λ (spent : Option FaultNote). IsRangeOver base spent piece after staged) (sym fresh) (is, given)

  -- it was granted, and lies in the range
  pub failed_inside : (was : Piece) (known : Option KnownJob) (p end : ℕ) (after : Option KnownJob) → IsClaimOf piece was known p end after → piece.range.from ≤ p → p < end → IsRangeFailed piece after
  failed_inside was known p end after made low inside =
      let from : made.now.range.from ≡ piece.range.from = ap (λ (x : Piece). x.range.from) made.claimed.same in
      record {
        last = p;
        range = record { now = made.now; claimed = made.claimed; ordered = omega (arith, from, made.ends, low, inside) };
        from_start = low;
        inside = omega (arith, made.ends, inside);
      }

  module _ (first : AreReaders told base.opened plan base.readers) where
    -- what is staged of the range as it is now, with this attempted, is what it brings
    given_going : (known : Option KnownJob) (next : ℕ) (staged : Receipt) (going : IsGoing base piece known next staged) (now : Piece) (attempted : Option ℕ) (after : Option KnownJob)
        → HasClaimed piece now attempted after → going.last + 1 ≤ worked_to now attempted → worked_to now attempted ≤ next → staged.seen ≤ℤ greatest_time → CanCommitAs base.setting after staged
    given_going known next staged going now attempted after claimed low high time =
        let reader = going.reader in
        let here : IsPieceReader now reader = reader_cut piece now reader claimed.same claimed.below (reader_for piece reader going.is_for) in
        let unspent = fresh_now piece now attempted after claimed going.fresh in
        let worked : IsPieceWorked plan (opening reader) reader.len now attempted staged =
        over_all plan piece (opening reader) reader.len (going.last + 1) next (nothing_staged piece) staged refl going.worked now attempted claimed.same low high in
        job_given base.setting plan refl (job.Span now) attempted after claimed.is staged
        (piece_given None base.opened plan base.readers first.untold going.place reader going.at now here unspent attempted staged time worked)
        (piece_given told base.opened plan base.readers first.told going.place reader going.at now here unspent attempted staged time worked)

    given_fresh : (staged : Receipt) → staged ≡ nothing_staged piece → (now : Piece) (attempted : Option ℕ) (after : Option KnownJob) → HasClaimed piece now attempted after
        → worked_to now attempted ≡ now.range.from → staged.seen ≤ℤ greatest_time → CanCommitAs base.setting after staged
    given_fresh staged empty now attempted after claimed none time =
        let seen : now.seen ≡ piece.seen = ap (λ (x : Piece). x.seen) claimed.same in
        let is : staged ≡ nothing_staged now = empty ∙ ap (λ s. record { arrivals = []; seen = s; logged = None }) (sym seen) in
        job_given base.setting plan refl (job.Span now) attempted after claimed.is staged (nothing_given None plan now attempted staged none is time) (nothing_given told plan now attempted staged none is time)

    -- a claim is refused
    pub refused_given : (was : Piece) (known : Option KnownJob) (p : ℕ) (staged : Receipt) → IsFresh piece known p staged ⊎ IsGoing base piece known p staged → (end : ℕ) (after : Option KnownJob)
        → IsClaimOf piece was known p end after → end ≤ p → staged.seen ≤ℤ greatest_time → IsRangeOver base piece.spent piece after staged
    refused_given was known p staged (inl fresh) end after made past time =
        let can = can_fresh known p staged fresh in
        let tries : None ≡ attempted_of known = sym (ap attempted_of fresh.range.claimed.is) in
        let begun : piece.range.from ≡ first_open piece known = ap (first_unattempted piece.range.from) tries in
        let from : made.now.range.from ≡ piece.range.from = ap (λ (x : Piece). x.range.from) made.claimed.same in
        let none : worked_to made.now (Some p) ≡ made.now.range.from = omega (arith, made.ends, made.behind, begun, past, fresh.first, from) in
        over_tried after staged fresh.fresh (tried was known p end after made (omega (arith, begun, made.behind))) (given_fresh staged fresh.empty made.now (Some p) after made.claimed none time)
    refused_given was known p staged (inr going) end after made past time =
        let tries : Some going.last ≡ attempted_of known = sym (ap attempted_of going.range.claimed.is) in
        let begun : going.last + 1 ≡ first_open piece known = ap (first_unattempted piece.range.from) tries in
        let low : going.last + 1 ≤ worked_to made.now (Some p) = omega (arith, begun, made.ends, made.behind, going.worked.ordered) in
        let high : worked_to made.now (Some p) ≤ p = omega (arith, made.ends, past) in
        over_tried after staged going.fresh (tried was known p end after made (omega (arith, begun, made.behind, going.worked.first)))
        (given_going known p staged going made.now (Some p) after made.claimed low high time)

    -- nothing was claimed
    pub taken_given : (known : Option KnownJob) (staged : Receipt) → IsRangeOf piece None known → staged ≡ nothing_staged piece → staged.seen ≤ℤ greatest_time → CanCommitAs base.setting known staged
    taken_given known staged range empty time =
        let none : worked_to range.now None ≡ range.now.range.from = omega (arith, range.ordered) in
        given_fresh staged empty range.now None known range.claimed none time

    -- or no other claim is made
    pub open_given : (known : Option KnownJob) (next : ℕ) (staged : Receipt) → IsFresh piece known next staged ⊎ IsGoing base piece known next staged → staged.seen ≤ℤ greatest_time
        → CanCommitAs base.setting known staged
    open_given known next staged (inl fresh) time = taken_given known staged fresh.range fresh.empty time
    open_given known next staged (inr going) time =
        let now = going.range.now in
        let low : going.last + 1 ≤ worked_to now (Some going.last) = omega (arith, going.inside) in
        let high : worked_to now (Some going.last) ≤ next = omega (arith, going.worked.ordered) in
        given_going known next staged going now (Some going.last) known going.range.claimed low high time

    module _ (place : ℕ) (reader : Reader) (at : slice_get base.readers place ≡ Some reader) (is_for : is_reader_for piece reader ≡ true) where
      abbrev is : IsPieceReader piece reader
      is = reader_for piece reader is_for

      -- a position is granted and worked
      pub going_on : (was : Piece) (known : Option KnownJob) (p : ℕ) (staged : Receipt) → IsFresh piece known p staged ⊎ IsGoing base piece known p staged → (end : ℕ) (after : Option KnownJob)
          → IsClaimOf piece was known p end after → p < end → (new : Receipt) (step : Step) → HasWorked plan piece.node (opening reader) reader.len p staged new step → p < step.next
          → ((emitted : Emission) → IsTimely emitted → All (IsFit plan piece.node) (emission_outputs plan piece.node emitted)) → IsGoing base piece after step.next new
      going_on was known p staged (inl fresh) end after made inside new step has rises fits =
          let from : made.now.range.from ≡ piece.range.from = ap (λ (x : Piece). x.range.from) made.claimed.same in
          let one = one_over reader.len (opening reader) p staged new step has rises fits in
          record {
            fresh = fresh.fresh;
            last = p;
            range = record { now = made.now; claimed = made.claimed; ordered = omega (arith, from, fresh.first, made.ends, inside) };
            inside = omega (arith, made.ends, inside);
            place = place;
            reader = reader;
            at = at;
            is_for = is_for;
            worked = subst (λ (r : Receipt). IsWorkedOver plan (opening reader) reader.len piece piece.range.from (p + 1) step.next r new) fresh.empty
                (subst (λ (q : ℕ). IsWorkedOver plan (opening reader) reader.len piece q (p + 1) step.next staged new) fresh.first one);
          }
      going_on was known p staged (inr going) end after made inside new step has rises fits =
          let from : made.now.range.from ≡ piece.range.from = ap (λ (x : Piece). x.range.from) made.claimed.same in
          let one = one_over reader.len (opening reader) p staged new step has rises fits in
          let same : going.reader ≡ reader = one_reader base.opened plan base.readers first.untold piece going.place place going.reader reader going.at at (reader_for piece going.reader going.is_for) is in
          let before : IsWorkedOver plan (opening reader) reader.len piece piece.range.from (going.last + 1) p (nothing_staged piece) staged =
          subst (λ (r : Reader). IsWorkedOver plan (opening r) r.len piece piece.range.from (going.last + 1) p (nothing_staged piece) staged) same going.worked in
          record {
            fresh = going.fresh;
            last = p;
            range = record { now = made.now; claimed = made.claimed; ordered = omega (arith, from, made.ends, inside, going.worked.first, going.worked.ordered) };
            inside = omega (arith, made.ends, inside);
            place = place;
            reader = reader;
            at = at;
            is_for = is_for;
            worked = over_both reader.len (opening reader) piece.range.from (going.last + 1) p (p + 1) step.next (nothing_staged piece) staged new before one;
          }

      -- ---- what is told of the position

      abbrev mine : (item : SourceItem) × (slice_get (items_told told plan) place ≡ Some item) × IsReaderOf told base.opened plan item reader
      mine = read told base.opened plan base.readers first.told place reader at piece is

      found : item_at (items_told told plan) piece.node piece.item ≡ Some mine.0
      found = piece_item told base.opened plan base.readers first.told place reader at piece is

      whole : item_of piece (record { work = mine.0.work; args = mine.0.args }) mine.0.file ≡ mine.0
      whole = item_same told base.opened plan base.readers first.told place reader at piece is

      text_known : is_known told plan piece.node ≡ true → IsText mine.0.work (opening reader) reader.len mine.0.file
      text_known known = mine.2.text (ap (λ (b : Bool). is_told told || not b) (sym (file_source told base.opened plan base.readers first.told place reader at piece is)) ∙ known)

      module _ (p : ℕ) (old new : Receipt) (step : Step) (has : HasWorked plan piece.node (opening reader) reader.len p old new step) where
        emits : is_known told plan piece.node ≡ true → (has.emitted ≡ emission mine.0.work mine.0.args mine.0.file p) × (step.next ≡ next_position mine.0.work mine.0.file p)
        emits known =
            has.told (record { work = mine.0.work; args = mine.0.args }) (piece_source told base.opened plan base.readers first.told place reader at piece is) mine.0.file (text_known known)

        next_where : (b : Bool) → is_known told plan piece.node ≡ b → IsNextWhere b told plan piece p step.next
        next_where false known = tt
        next_where true known = subst (λ (i : Option SourceItem). IsNextIn i p step.next) (sym found) (emits known).1

        -- the position after it lies in the item
        pub next_after : IsNextOf p reader.len step.next → map length_in base.readers ≡ base.setting.files → IsNextAfter told plan base.setting.files piece p step.next
        next_after next lengths =
            let cut : Piece = cut_to piece (record { from = p; to = step.next }) in
            let own : is_reader_for cut reader ≡ true = reader_of cut reader (record { node = is.node; item = is.item; reaches = next.1 }) in
            let within = slice_get_within base.readers place reader at in
            let here : Some reader ≡ Some (get_or base.readers place reader) = sym at ∙ slice_get-get_or base.readers place reader within in
            let one : reader ≡ get_or base.readers place reader = cc in
            let any : list_any (is_reader_for cut) base.readers ≡ true =
            list_any_at (is_reader_for cut) base.readers place reader within (subst (λ (r : Reader). is_reader_for cut r ≡ true) one own) in
            record {
              behind = next.0;
              inside = ap (list_any (holds_end cut)) (sym lengths) ∙ sym (readers_hold cut base.readers) ∙ any;
              known = next_where (is_known told plan piece.node) refl;
            }

        -- whether it emitted a value
        pub emitted_where : (b : Bool) → is_known told plan piece.node ≡ b → IsEmittedWhere b told plan piece p step.emitted
        emitted_where false known = tt
        emitted_where true known =
            let flag : step.emitted ≡ has_value (emission mine.0.work mine.0.args mine.0.file p) = flag_is step.emitted has.emitted has.worked.emits ∙ ap has_value (emits known).0 in
            subst (λ (i : Option SourceItem). step.emitted ≡ emits_value i p) (sym found) (subst (λ (i : SourceItem). step.emitted ≡ emits_value (Some i) p) whole flag)

        outputs : spread_of plan (record { from = p; to = p + 1 }) (item_at (items_told told plan) piece.node piece.item)
            ≡ emission_outputs plan piece.node (emission mine.0.work mine.0.args mine.0.file p)
        outputs =
            ap (spread_of plan (record { from = p; to = p + 1 })) found
            ∙ ap (λ (i : SourceItem). spread_range plan i p (p + 1)) (sym whole)
            ∙ spread-single (outputs_in plan (item_of piece (record { work = mine.0.work; args = mine.0.args }) mine.0.file)) p

        -- it met no poison
        pub sound : (now : Piece) (after : Option KnownJob) → HasClaimed piece now (Some p) after → IsSound base.setting after
        sound now after claimed =
            let none : is_known told plan piece.node ≡ true → list_any is_poison (spread_of plan (record { from = p; to = p + 1 }) (item_at (items_told told plan) piece.node piece.item)) ≡ false =
            λ known.
            ap (list_any is_poison) outputs
            ∙ ap (λ (e : Emission). list_any is_poison (emission_outputs plan piece.node e)) (sym (emits known).0)
            ∙ none_behind old.arrivals new.arrivals (emission_outputs plan piece.node has.emitted) has.worked.arrivals in
            subst (IsSound base.setting) (sym claimed.is)
            (subst (λ (x : Piece). is_known told plan x.node ≡ true → list_any is_poison (outputs_at told plan (job.Span x) (Some p)) ≡ false) (sym claimed.same) none)

-- ---- a position is granted, and its work fails

module _ (setting : Setting) (opened : ℕ → Option Opening) (plan : Plan) (same : plan ≡ setting.plan) (readers : List Reader) (all : AreReaders setting.known.told opened plan readers)
    (k : ℕ) (reader : Reader) (at : slice_get readers k ≡ Some reader) (piece : Piece) (is_for : is_reader_for piece reader ≡ true) (fresh : piece.spent ≡ None) (pager : Paged)
    (is : IsPagerFor opened plan reader pager) where
  pub fails : (was : Piece) (known : Option KnownJob) (p end : ℕ) (after : Option KnownJob) → IsClaimOf piece was known p end after → piece.range.from ≤ p → p < end → (staged : Receipt)
      → (shelf : ObservedShelf) (store : ObservedStore) → (setting.known.strict ≡ true → shelf.strict ≡ true) → (refusal : ExecRefusal)
      → IsRefusedAt shelf (record { before = store.before; after = store.after }) plan piece.node (opened pager.file) pager.len p refusal → IsJobRefused setting shelf store after refusal
  fails was known p end after made low inside staged shelf store stricter refusal refused =
      let counts : StoreCounts = record { before = store.before; after = store.after } in
      let node : made.now.node ≡ piece.node = ap (λ (x : Piece). x.node) made.claimed.same in
      let from : made.now.range.from ≡ piece.range.from = ap (λ (x : Piece). x.range.from) made.claimed.same in
      let why : IsPieceRefused shelf counts plan (opened pager.file) pager.len made.now (Some p) refusal = record {
        p = p;
        last = refl;
        from_start = omega (arith, from, low);
        inside = omega (arith, made.ends, inside);
        refused = subst (λ (n : ℕ). IsRefusedAt shelf counts plan n (opened pager.file) pager.len p refusal) (sym node) refused;
      } in
      end_honest setting opened plan same readers all k reader at piece is_for fresh pager is after staged (Unit {0}) shelf store stricter refusal
      (record { now = made.now; last = p; claimed = made.claimed; worked = tt; refused = why })
