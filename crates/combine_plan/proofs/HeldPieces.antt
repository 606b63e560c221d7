-- Lines of a piece of the file that was read last, added by views.
use Rattle.std.proofs.Common.{◌≡◌, inl, inr, ℕ, ◌+◌, ◌<◌, ◌≤◌, List, [], ◌∷◌, map, refl, sym, ap, subst, ◌∙◌, arith}
use Rattle.std.specs.Prelude.{IfOk, Option, Some, None, Result, Ok, Err, slice_get}
use Rattle.std.proofs.lemmas.Bool.{false≢true}
use Rattle.beam_values.specs.Checked.{reads_file}
use Rattle.beam_values.specs.Lines.{spread}
use Rattle.beam_values.specs.declared.fault.Cause.TheVariants.{Call, Read}
use Rattle.beam_values.specs.declared.file_text.FileText.{FileText}
use Rattle.beam_values.specs.declared.piece.Piece.{Piece}
use Rattle.beam_values.specs.declared.plan.Plan.{Plan}
use Rattle.beam_values.specs.declared.plan.SourceKind.{SourceKind}
use Rattle.beam_values.specs.declared.value.Value.{Value}
use Rattle.beam_model.specs.Chains.{Arrives, Output}
use Rattle.beam_model.specs.Coverings.{spread_dones, spread_of}
use Rattle.beam_model.specs.Positions.{SourceItem, items}
use Rattle.beam_model.specs.Premises.{done_range}
use Rattle.beam_model.specs.Spread.{spread_range}
use Rattle.beam_ports.specs.Counts.{Rose}
use Rattle.beam_ports.specs.Files.{KeepsOpenings, Opening}
use Rattle.beam_ports.specs.Observed.{ObservedStore}
use Rattle.sdf_library.specs.Paging.{Paged}
use Rattle.book_core.specs.Work.{Surroundings}
use Rattle.bundle_work.specs.Reading.{AreToldReaders, IsPagerFor, IsReading}
use Rattle.bundle_work.specs.declared.reading.Reader.{Reader}
use Rattle.bundle_work.proofs.PieceReads.{IsPieceReader, item_same, piece_item, piece_source, read, reader_for, reading_after}
use Rattle.chain_exec.specs.Causes.{ObservedShelf}
use Rattle.chain_exec.specs.Sources.{IsPagerOf, IsText, SourceWork, source_at}
use Rattle.chain_exec.specs.declared.refusal.ExecRefusal.TheVariants.{Faulted}
use Rattle.combine_lift.specs.Tables.{Table}
use Rattle.combine_views.specs.Skims.{HasSkimmed, HasSkimmedTo, outputs_of}
use Rattle.combine_plan.specs.Folding.{FailsAgain, HasFolded, IsFailedAgain, IsLeftBehind}
use Rattle.combine_plan.specs.Skimming.{IsHeldItem}
use Rattle.combine_plan.specs.declared.refusal.CombineRefusal.{CombineRefusal}
use Rattle.combine_plan.proofs.Folded.{folded_empty}
use Rattle.combine_plan.proofs.Ranges.{one_range}

module _ (told : Option (List FileText)) (opened : ℕ → Option Opening) (plan : Plan) (readers shown : List Reader) (place : ℕ) (pager : Paged) (piece : Piece) (work : SourceKind)
    (reading : IsReading told opened plan readers place pager) (same : shown ≡ readers) (item : IsHeldItem plan shown place piece work) where
  at_place : slice_get readers place ≡ Some item.reader
  at_place = ap (λ (l : List Reader). slice_get l place) (sym same) ∙ item.at

  is_reader : IsPieceReader piece item.reader
  is_reader = reader_for piece item.reader item.is_for

  for_reader : IsPagerFor opened plan item.reader pager
  for_reader = reading.last item.reader at_place

  own_source : source_at plan item.reader.node ≡ Some (record { work = work; args = item.file.args })
  own_source = ap (source_at plan) is_reader.node ∙ item.file.source

  -- the pager is that of the file
  pub held_pager : IsPagerOf (opened pager.file) pager
  held_pager = for_reader.able.held (record { work = work; args = item.file.args }) own_source item.file.reads

  pub held_to : piece.range.to ≤ pager.len
  held_to = omega (arith, is_reader.reaches, for_reader.len)

  -- and is so after reads
  pub reading_later : (later : ℕ → Option Opening) (new : Paged) → KeepsOpenings opened later → new.file ≡ pager.file → new.len ≡ pager.len → IsPagerOf (later new.file) new
      → IsReading told later plan readers place new
  reading_later later new kept file len held =
      reading_after told opened plan readers place later kept reading.all item.reader at_place new
      (record {
        file = file ∙ for_reader.file;
        len = len ∙ for_reader.len;
        able = record {
          source = for_reader.able.source;
          counted = λ source here none. absurd (false≢true (sym none ∙ ap (λ (s : SourceWork). reads_file s.work) (one source here) ∙ item.file.reads));
          held = λ source here reads. held;
        };
      })
    where
      one : (source : SourceWork) → source_at plan item.reader.node ≡ Some source → source ≡ record { work = work; args = item.file.args }
      one source here = let mine = own_source in cc

  -- ---- what lines brought is what the range brings

  module _ (files : List FileText) (is : told ≡ Some files) where
    are : AreToldReaders (Some files) opened plan readers
    are = subst (λ (t : Option (List FileText)). AreToldReaders t opened plan readers) is reading.all.told

    module _ (from at : ℕ) where
      abbrev brings : SourceItem → List Output
      brings item = spread_range plan item from at

      lines_bring : {A : Type 0} (stands : A → List Value → Type 0) (old new : Table A) (skimmed : HasSkimmed stands plan piece.node work (opened pager.file) pager.len from at old new)
          → map Arrives skimmed.arrivals ≡ spread_dones plan (items files plan) (done_range piece.node piece.item from at ∷ [])
      lines_bring {A} stands old new skimmed =
          let found = read (Some files) opened plan readers are place item.reader at_place piece is_reader in
          let own : SourceItem = found.0 in
          let source = piece_source (Some files) opened plan readers are place item.reader at_place piece is_reader in
          let known = item.file.source in
          let works : own.work ≡ work = ap work_of (sym source ∙ known) in
          let text : IsText own.work (opened item.reader.file) item.reader.len own.file = found.2.text refl in
          let told_text : IsText work (opened pager.file) pager.len own.file =
          subst (λ (w : SourceKind). IsText w (opened pager.file) pager.len own.file) works
          (subst (λ (n : ℕ). IsText own.work (opened pager.file) n own.file) (sym for_reader.len)
          (subst (λ (f : ℕ). IsText own.work (opened f) item.reader.len own.file) (sym for_reader.file) text)) in
          skimmed.all own.args own.file told_text
          ∙ ap (λ (w : SourceKind). spread (outputs_of plan piece.node w own.args own.file) from at) (sym works)
          ∙ ap brings (item_same (Some files) opened plan readers are place item.reader at_place piece is_reader)
          ∙ ap (spread_of plan (record { from = from; to = at })) (sym (piece_item (Some files) opened plan readers are place item.reader at_place piece is_reader))
          ∙ sym (one_range plan (items files plan) (done_range piece.node piece.item from at))
        where
          work_of : Option SourceWork → SourceKind
          work_of None = work
          work_of (Some source) = source.work

-- ---- what is left of a piece

module _ {A : Type 0} (stands : A → List Value → Type 0) (known : Surroundings) (shelf : ObservedShelf) (store : ObservedStore) (plan : Plan) (attempts : ℕ) (rest : Piece)
    (few : rest.attempts < attempts) where
  -- all of it
  pub left_whole : (table : Table A) → rest.range.from ≤ rest.range.to → IsLeftBehind stands known shelf store plan attempts rest rest table table
  left_whole table ordered = record {
    same = refl;
    behind = omega arith;
    within = ordered;
    limit = few;
    more = omega arith;
    folded = folded_empty stands known plan rest.node rest.item rest.range.from rest.range.from table (omega arith);
    fails = inl refl;
  }

  module _ (opened : ℕ → Option Opening) (readers shown : List Reader) (place : ℕ) (pager : Paged) (work : SourceKind) (reading : IsReading known.told opened plan readers place pager)
      (same : shown ≡ readers) (item : IsHeldItem plan shown place rest work) (from to at : ℕ) (old new : Table A) (starts : from ≡ rest.range.from) (ends : to ≡ rest.range.to)
      (were : HasSkimmedTo stands plan rest.node work (opened pager.file) pager.len from to at old new) where
    skimmed : HasSkimmedTo stands plan rest.node work (opened pager.file) pager.len rest.range.from rest.range.to at old new
    skimmed =
        subst (λ (n : ℕ). HasSkimmedTo stands plan rest.node work (opened pager.file) pager.len n rest.range.to at old new) starts
        (subst (λ (n : ℕ). HasSkimmedTo stands plan rest.node work (opened pager.file) pager.len from n at old new) ends were)

    folded_to : HasFolded stands known plan (done_range rest.node rest.item rest.range.from at ∷ []) old new
    folded_to = record {
      arrivals = skimmed.skimmed.arrivals;
      told = λ files is. lines_bring known.told opened plan readers shown place pager rest work reading same item files is rest.range.from at stands old new skimmed.skimmed;
      parts = skimmed.skimmed.parts;
      standing = skimmed.skimmed.standing;
    }

    left_after : (tries : ℕ) → tries < attempts → rest.attempts ≤ tries → FailsAgain known shelf store plan rest tries
        → IsLeftBehind stands known shelf store plan attempts rest (record rest { range = record { from = at; to = rest.range.to }; attempts = tries }) old new
    left_after tries limit more fails = record {
      same = refl;
      behind = skimmed.behind;
      within = skimmed.within;
      limit = limit;
      more = more;
      folded = folded_to;
      fails = fails;
    }

    -- that behind the lines
    pub left_skimmed : (left : Piece) → left ≡ record rest { range = record { from = at; to = rest.range.to } } → IsLeftBehind stands known shelf store plan attempts rest left old new
    left_skimmed left is = subst (λ (l : Piece). IsLeftBehind stands known shelf store plan attempts rest l old new) (sym is) (left_after rest.attempts few (omega arith) (inl refl))

    -- and that where a read failed
    pub left_failed : (behind : Piece) (result : Result Piece CombineRefusal) → behind ≡ record rest { range = record { from = at; to = rest.range.to } } → Rose store.before store.after
        → IsFailedAgain behind (Faulted rest.node Read) attempts result → IfOk result (λ left. IsLeftBehind stands known shelf store plan attempts rest left old new)
    left_failed behind (Err refusal) is rose tried = tt
    left_failed behind (Ok left) is rose tried =
        let tries : behind.attempts ≡ rest.attempts = ap (λ (p : Piece). p.attempts) is in
        let left_is : left ≡ record rest { range = record { from = at; to = rest.range.to }; attempts = rest.attempts + 1 } =
        tried.0 ∙ ap (λ (p : Piece). record p { attempts = p.attempts + 1 }) is in
        subst (λ (l : Piece). IsLeftBehind stands known shelf store plan attempts rest l old new) (sym left_is)
        (left_after (rest.attempts + 1) (omega (arith, tried.1)) (omega arith)
        (inr (refl, rest.node, Read, record { counted = rose; call = λ never. absurd (read_no_call never); read = λ is. refl })))
      where
        read_no_call : Read ≡ Call → ⊥
        read_no_call e = cc
