-- The steps on the two words keep the rule: drawing a ticket, loading serving with the slot taken, and ending the turn with the slot put back.
use Rattle.std.proofs.Common.{◌≡◌, ℕ, ◌+◌, ◌%◌, ◌<◌, ◌≤◌, List, [], ◌∷◌, set, get_or, sym, refl, ap, ◌∙◌, subst, inl, inr, ⊎_elim, arith}
use Rattle.std.specs.Prelude.{Option, Some}
use Rattle.std.proofs.Math.Nat.{mod-add-mod}
use mathlib.Core.Option.{some, none, Option as Maybe}
use mathlib.Core.Logic.{dite}
use native.Mathlib.Decide.{ℕ_discrete}
use lib.ListN.{get_elem?}
use lib.Seq.{set-get_or}
use Rattle.atomic_table.specs.Table.{State, Me, keeps, takes, gives, step, stepped, put_back, rest, Allows}
use Rattle.atomic_table.proofs.Lists.{set_here, set_else, set_again, one_turn}
use Rattle.turn_desk.specs.declared.held.Note.{Note}
use Rattle.turn_desk.specs.declared.view.Stage.{Stage}
use Rattle.turn_desk.specs.declared.view.Stage.TheVariants.{Idle, Waits, InTurn}
use Rattle.turn_desk.specs.declared.view.View.{View}
use Rattle.turn_desk.specs.declared.view.Slot.{Slot}
use Rattle.turn_desk.specs.Notes.{size_of, IsSound, IsApart, HasSameNumbers}
use Rattle.turn_desk.specs.Rule.{IsPresent, IsAside, tickets_of, HasTicket, IsInLine, size_in, tickets_in, IsHome, Stands, Turns, view_at, at_stage}
use Rattle.turn_desk.specs.Plays.{Draws, IsServed, Serves, Ends}
use Rattle.turn_desk.proofs.Numbers.{apart_back, sound_same, apart_same, size_same}
use Rattle.turn_desk.proofs.Stages.{later, next_turn, ticket_drawn, turn_ticket, no_ticket_aside, present_size, tickets_at_most, size_positive}
use Rattle.turn_desk.proofs.Views.{inside, same_at, each_set, pairs_set, sum_set, sum_below}

-- the next count, as the word has it
next_word : (n k : ℕ) → n ≡ k % 18446744073709551616 → (n + 1) % 18446744073709551616 ≡ (k + 1) % 18446744073709551616
next_word n k e = ap (λ (z : ℕ). (z + 1) % 18446744073709551616) e ∙ mod-add-mod k 18446744073709551616 1

module _ {V A C : Type 0} (fits : V → C → Note A → Type 0) (constant : C) where
  abbrev W : Type 0
  W = View V A C

  abbrev St : Type 0
  St = State (Slot V A) W

  abbrev Rule : St → Type 0
  Rule = Turns fits constant

  abbrev M : Type 0
  M = Me (Slot V A) W

  module _ (s : St) (r : Rule s) where
    pub first_word : get_or s.words 0 0 ≡ r.drawn % 18446744073709551616
    first_word = ap (λ (ws : List ℕ). get_or ws 0 0) r.words

    pub second_word : get_or s.words 1 0 ≡ r.serving % 18446744073709551616
    second_word = ap (λ (ws : List ℕ). get_or ws 1 0) r.words

    -- fewer tickets are out than there are numbers
    pub few_tickets : r.drawn ≤ r.serving + 4294967296
    few_tickets = let le = sum_below tickets_in size_in s.views (λ j v at. tickets_at_most (size_of v.note) v.stage (λ p. size_positive fits constant r.value v (r.each j v at p))) in
        let out = r.out in let all = r.sizes in omega arith

  pub draws : (slots id : ℕ) (m : M) → m.0.stage ≡ Idle → Allows Rule slots id m 0 (λ n. (n + 1) % 18446744073709551616) (Draws (step slots 0 1 0 none) m)
  draws slots id m idle s r _ at _ =
      let t : ℕ = r.drawn in let v : W = m.0 in let w : W = at_stage v (Waits t) in
      let present : IsPresent v.stage = subst IsPresent (sym idle) tt in
      let mine = r.each id v at present in
      let count = sum_set tickets_in s.views id v w at in let none_out : tickets_in v ≡ 0 = ap tickets_of idle in
      let size = sum_set size_in s.views id v w at in let same : size_in v ≡ size_of v.note = present_size (size_of v.note) v.stage present in (
        w,
        keeps,
        tt,
        record {
          drawn = t + 1;
          serving = r.serving;
          value = r.value;
          words = ap (λ (ws : List ℕ). set ws 0 ((get_or s.words 0 0 + 1) % 18446744073709551616)) r.words
              ∙ ap (λ (k : ℕ). k ∷ r.serving % 18446744073709551616 ∷ []) (next_word _ t (first_word s r));
          out = (let out = r.out in omega arith);
          sizes = (let all = r.sizes in omega arith);
          each = each_set (λ j d. IsPresent d.stage → Stands fits constant r.value d) s.views id w (λ _. record { sound = mine.sound; constant_is = mine.constant_is; fitting = mine.fitting }) (λ j d _ a. r.each j d a);
          line = each_set (λ j d. IsInLine r.serving (t + 1) r.value d.stage) s.views id w ((let out = r.out in omega arith), omega arith) (λ j d _ a. later r.serving t r.value d.stage (r.line j d a));
          apart = pairs_set (λ v w. IsPresent v.stage → IsPresent w.stage → IsApart v.note w.note) s.views id w
              (λ j d away a. ((λ _ p. r.apart id j v d (λ e. away (sym e)) at a present p), (λ p _. r.apart j id d v away a at p present))) r.apart;
          tickets = λ i j u x y. pairs_set (λ v w. HasTicket u v.stage → HasTicket u w.stage → ⊥) s.views id w
              (λ j d _ a. (
                (λ here there. let e : t ≡ u = here in let l = ticket_drawn r.serving t r.value u d.stage there (r.line j d a) in omega arith),
                (λ there here. let e : t ≡ u = here in let l = ticket_drawn r.serving t r.value u d.stage there (r.line j d a) in omega arith),
              )) (λ i j v w. r.tickets i j u v w) i j x y;
          slot = ⊎_elim (λ home. inl (home.0, each_set (λ j d. IsAside d.stage) s.views id w tt (λ j d _ a. home.1 j d a)))
              (λ out. inr (out.0, out.1, out.2, (set_else s.views id out.1 w (λ e. out.4 (subst (λ (x : W). IsAside x.stage) (same_at s.views id v out.2 at (subst (λ (k : ℕ). get_elem? s.views k ≡ some out.2) e out.3)) (subst IsAside (sym idle) tt))) ∙ out.3), out.4)) r.slot;
        },
        (t, first_word s r, refl),
      )

  waits_same : (t u : ℕ) (st : Stage V) → st ≡ Waits t → st ≡ Waits u → t ≡ u
  waits_same t u st a b = (let e : Waits t ≡ Waits u = sym a ∙ b in cc)

  -- the constant that a view names is the desk's
  one_constant : (c d : C) (o : Option C) → o ≡ Some c → o ≡ Some d → c ≡ d
  one_constant c d o a b = (let e : Some c ≡ Some d = sym a ∙ b in cc)

  -- the seat whose ticket is served takes the slot
  module _ (s : St) (r : Rule s) (id t : ℕ) (m : M) (waits : m.0.stage ≡ Waits t) (empty : m.1 ≡ []) (at : get_elem? s.views id ≡ some m.0) (served : r.serving ≡ t) where
    abbrev v : W
    v = m.0

    abbrev w : W
    w = at_stage v (InTurn t r.value)

    present : IsPresent v.stage
    present = subst IsPresent (sym waits) tt

    -- no other pass has the ticket that is served, so none is in turn
    none_busy : (j : ℕ) (d : W) → get_elem? s.views j ≡ some d → (IsAside d.stage → ⊥) → ⊥
    none_busy j d a busy = dite (ℕ_discrete id j)
        (λ e. busy (subst (λ (x : W). IsAside x.stage) (same_at s.views id v d at (subst (λ (k : ℕ). get_elem? s.views k ≡ some d) (sym e) a)) (subst IsAside (sym waits) tt)))
        (λ away. r.tickets id j r.serving v d away at a (subst (HasTicket r.serving) (sym waits) (sym served)) (turn_ticket r.serving r.drawn r.value d.stage busy (r.line j d a)))

    home_rule : (x : Slot V A) → s.homes ≡ some x ∷ [] → ((j : ℕ) (d : W) → get_elem? s.views j ≡ some d → IsAside d.stage) → Rule (stepped s 1 (get_or s.words 1 0) id m.1 w (takes 0 x))
    home_rule x homes aside =
        let count = sum_set tickets_in s.views id v w at in let one_out : tickets_in v ≡ 1 = ap tickets_of waits in
        let size = sum_set size_in s.views id v w at in let same : size_in v ≡ size_of v.note = present_size (size_of v.note) v.stage present in
        let mine = r.each id v at present in record {
          drawn = r.drawn;
          serving = r.serving;
          value = r.value;
          words = set-get_or s.words 1 0 ∙ r.words;
          out = (let out = r.out in omega arith);
          sizes = (let all = r.sizes in omega arith);
          each = each_set (λ j d. IsPresent d.stage → Stands fits constant r.value d) s.views id w (λ _. record { sound = mine.sound; constant_is = mine.constant_is; fitting = mine.fitting }) (λ j d _ a. r.each j d a);
          line = each_set (λ j d. IsInLine r.serving r.drawn r.value d.stage) s.views id w
              (sym served, (subst (IsInLine r.serving r.drawn r.value) waits (r.line id v at)).1, refl) (λ j d _ a. r.line j d a);
          apart = pairs_set (λ v w. IsPresent v.stage → IsPresent w.stage → IsApart v.note w.note) s.views id w
              (λ j d away a. ((λ _ p. r.apart id j v d (λ e. away (sym e)) at a present p), (λ p _. r.apart j id d v away a at p present))) r.apart;
          tickets = λ i j u x y. pairs_set (λ v w. HasTicket u v.stage → HasTicket u w.stage → ⊥) s.views id w
              (λ j d away a. (
                (λ here there. r.tickets id j u v d (λ e. away (sym e)) at a (subst (HasTicket u) (sym waits) here) there),
                (λ there here. r.tickets id j u v d (λ e. away (sym e)) at a (subst (HasTicket u) (sym waits) here) there),
              )) (λ i j v w. r.tickets i j u v w) i j x y;
          slot = inr (ap (λ (hs : List (Maybe (Slot V A))). set hs 0 none) homes, id, w, set_here s.views id w (inside s.views id v at), λ busy. busy);
        }

    told : (x : Slot V A) → x.value ≡ Some r.value → (u : ℕ) → v.stage ≡ Waits u → IsServed fits v u (w, (0, x) ∷ m.1)
    told x has u is =
        let mine = r.each id v at present in let e : t ≡ u = waits_same t u v.stage waits is in (
          r.value,
          x,
          (λ i. (at_stage v (InTurn (e i) r.value), (0, x) ∷ empty i)),
          has,
          mine.sound,
          λ c is. subst (λ (k : C). fits r.value k v.note) (one_constant constant c v.constant mine.constant_is is) mine.fitting,
        )

  pub serves : (slots id t : ℕ) (m : M) → m.0.stage ≡ Waits t → m.1 ≡ [] → Allows Rule slots id m 1 (λ n. n) (Serves fits (step slots 1 0 0 none) m)
  serves slots id t m waits empty s r _ at _ = dite (ℕ_discrete (get_or s.words 1 0) (t % 18446744073709551616))
      (λ hit.
      let line = subst (IsInLine r.serving r.drawn r.value) waits (r.line id m.0 at) in
      let few = few_tickets s r in let from : r.serving ≤ t = line.0 in let below : t < r.drawn = line.1 in
      let served : r.serving ≡ t = one_turn r.serving t 18446744073709551616 from (omega arith) (sym (second_word s r) ∙ hit) in
      ⊎_elim
      (λ (home : IsHome r.value s.homes × ((j : ℕ) (d : W) → get_elem? s.views j ≡ some d → IsAside d.stage)). let x : Slot V A = home.0.0 in (
        at_stage m.0 (InTurn t r.value),
        takes 0 x,
        ap (λ (hs : List (Maybe (Slot V A))). get_elem? hs 0) home.0.1,
        home_rule s r id t m waits empty at served x home.0.1 home.1,
        λ u is. ((λ _. told s r id t m waits empty at served x home.0.2 u is), (λ miss. absurd (miss (hit ∙ ap (λ (k : ℕ). k % 18446744073709551616) (waits_same t u m.0.stage waits is))))),
      ))
      (λ out. absurd (none_busy s r id t m waits empty at served out.1 out.2 out.3 out.4)) r.slot)
      (λ miss. (
        m.0,
        keeps,
        tt,
        subst Rule (λ i. record { words = sym (set-get_or s.words 1 0) i; homes = s.homes; views = sym (set_again s.views id m.0 at) i }) r,
        λ u is. ((λ hit. absurd (miss (hit ∙ ap (λ (k : ℕ). k % 18446744073709551616) (sym (waits_same t u m.0.stage waits is))))), (λ _. refl)),
      ))

  -- the pass in turn puts another value back, by a move
  module _ (moves : C → V → Note A → V → Note A → Type 0)
      (keeps_own : (c : C) (x y : V) (m n : Note A) → IsSound m → fits x c m → moves c x m y n → fits y c n × HasSameNumbers m n)
      (keeps_others : (c : C) (x y : V) (m n other : Note A) → IsSound m → IsSound other → IsApart m other → fits x c m → moves c x m y n → fits x c other → fits y c other) where
    pub ends : (slots id t : ℕ) (m : M) (x y : V) (slot : Slot V A) → m.0.stage ≡ InTurn t x → m.1 ≡ (0, slot) ∷ [] → slot.value ≡ Some y → moves constant x m.0.note y slot.note.value
        → Allows Rule slots id m 1 (λ n. (n + 1) % 18446744073709551616) (Ends (step slots 1 1 0 none) m)
    ends slots id t m x y slot turn carried has move s r _ at _ =
        let v : W = m.0 in let note : Note A = slot.note.value in let w : W = view_at note v.constant Idle in
        let line = subst (IsInLine r.serving r.drawn r.value) turn (r.line id v at) in
        let served : t ≡ r.serving = line.0 in let below : t < r.drawn = line.1 in let lent : x ≡ r.value = line.2 in
        let present : IsPresent v.stage = subst IsPresent (sym turn) tt in
        let mine = r.each id v at present in let fit : fits x constant v.note = subst (λ (z : V). fits z constant v.note) (sym lent) mine.fitting in
        let own = keeps_own constant x y v.note note mine.sound fit move in
        let count = sum_set tickets_in s.views id v w at in let one_out : tickets_in v ≡ 1 = ap tickets_of turn in
        let size = sum_set size_in s.views id v w at in let same : size_in v ≡ size_of v.note = present_size (size_of v.note) v.stage present in
        let sizes_same = size_same v.note note own.1 in
        let alone : (j : ℕ) (d : W) → ¬ (j ≡ id) → get_elem? s.views j ≡ some d → HasTicket r.serving d.stage → ⊥ = λ j d away a has. r.tickets j id r.serving d v away a at has (subst (HasTicket r.serving) (sym turn) served) in (
          w,
          gives,
          tt,
          record {
            drawn = r.drawn;
            serving = r.serving + 1;
            value = y;
            words = ap (λ (ws : List ℕ). set ws 1 ((get_or s.words 1 0 + 1) % 18446744073709551616)) r.words
                ∙ ap (λ (k : ℕ). r.drawn % 18446744073709551616 ∷ k ∷ []) (next_word _ r.serving (second_word s r));
            out = (let out = r.out in omega arith);
            sizes = (let all = r.sizes in omega arith);
            each = each_set (λ j d. IsPresent d.stage → Stands fits constant y d) s.views id w (λ _. record { sound = sound_same v.note note own.1 mine.sound; constant_is = mine.constant_is; fitting = own.0 })
                (λ j d away a p. let theirs = r.each j d a p in record {
                  sound = theirs.sound;
                  constant_is = theirs.constant_is;
                  fitting = keeps_others constant x y v.note note d.note mine.sound theirs.sound (r.apart id j v d (λ e. away (sym e)) at a present p) fit move (subst (λ (z : V). fits z constant d.note) (sym lent) theirs.fitting);
                });
            line = each_set (λ j d. IsInLine (r.serving + 1) r.drawn y d.stage) s.views id w tt (λ j d away a. next_turn r.serving r.drawn r.value y d.stage (alone j d away a) (r.line j d a));
            apart = pairs_set (λ v w. IsPresent v.stage → IsPresent w.stage → IsApart v.note w.note) s.views id w
                (λ j d away a. (
                  (λ _ p. apart_same v.note note d.note own.1 (r.apart id j v d (λ e. away (sym e)) at a present p)),
                  (λ p _. apart_back note d.note (apart_same v.note note d.note own.1 (r.apart id j v d (λ e. away (sym e)) at a present p))),
                )) r.apart;
            tickets = λ i j u x y. pairs_set (λ v w. HasTicket u v.stage → HasTicket u w.stage → ⊥) s.views id w (λ j d _ a. ((λ here there. here), (λ there here. here))) (λ i j v w. r.tickets i j u v w) i j x y;
            slot = inl (
              (
                slot,
                ⊎_elim (λ home. absurd (subst IsAside turn (home.1 id v at)))
                    (λ out. ap (λ (cs : List (ℕ × Slot V A)). put_back s.homes cs) carried ∙ ap (λ (hs : List (Maybe (Slot V A))). set hs 0 (some slot)) out.0) r.slot,
                has,
              ),
              each_set (λ j d. IsAside d.stage) s.views id w tt (λ j d away a. no_ticket_aside r.serving r.drawn r.value d.stage (alone j d away a) (r.line j d a)),
            );
          },
          λ k is. (let e : (0, slot) ∷ [] ≡ k ∷ [] = sym carried ∙ is in
              let same : (0, slot) ≡ k = cc in λ i. (view_at (same i).1.note.value v.constant Idle, rest (carried i))),
        )
