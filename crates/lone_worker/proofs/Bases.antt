-- What lies under the work of slots stays as it is while one of them works.
use Rattle.std.proofs.Common.{◌≡◌, ℕ, List, map, sym, ap, ◌∙◌, subst}
use Rattle.std.specs.Prelude.{Option}
use Rattle.beam_ports.specs.Files.{KeepsOpenings, Opening}
use Rattle.beam_values.specs.declared.plan.Plan.{Plan}
use Rattle.sdf_library.specs.Paging.{Paged}
use Rattle.bundle_work.specs.Reading.{IsReading, length_in}
use Rattle.bundle_work.specs.declared.reading.Reader.{Reader}
use Rattle.lone_worker.specs.Work.{Base, IsReadingOn}

module _ (base : Base) (opened : ℕ → Option Opening) (readers : List Reader) (place : ℕ) (pager : Paged) (on : IsReadingOn base opened readers place pager) where
  pub reads : (plan : Plan) → plan ≡ base.setting.plan → IsReading base.setting.known.told opened plan readers place pager
  reads plan same = subst (λ (p : Plan). IsReading base.setting.known.told opened p readers place pager) (sym same) on.now

  pub lengths_on : map length_in readers ≡ base.setting.files
  lengths_on = ap (map length_in) on.same ∙ on.lengths

  pub reading_on : (plan : Plan) → plan ≡ base.setting.plan → (later : ℕ → Option Opening) (others : List Reader) (at : ℕ) (new : Paged) → KeepsOpenings opened later → others ≡ readers
      → IsReading base.setting.known.told later plan others at new → IsReadingOn base later others at new
  reading_on plan same later others at new keeps stays reading = record {
    first = on.first;
    lengths = on.lengths;
    kept = λ file opening is. keeps file opening (on.kept file opening is);
    same = stays ∙ on.same;
    now = subst (λ (p : Plan). IsReading base.setting.known.told later p others at new) same reading;
  }
