use Rattle.std.proofs.Common.{◌≡◌, ℤ, int_eq, refl, sym, ap, ◌∙◌}
use Rattle.std.specs.Prelude.{Option, Some, None, unwrap_or}
use Rattle.std.specs.Bool.{Decides}
use Rattle.std.specs.Option.{option_eq}
use Rattle.std.proofs.lemmas.Bool.Decides.{Decides-int_eq}
use Rattle.std.proofs.lemmas.Result.{IfOk-weaker}
use Rattle.std.proofs.lemmas.Slice.Eq.{slice_eq-Decides}
use Rattle.chain_exec.proofs.key.kept_or_new.Goals as goal

times_decide : (a b : Option ℤ) → Decides (option_eq int_eq a b) (a ≡ b)
times_decide None None = (λ e. refl, λ e. refl)
times_decide None (Some time) = (λ e. absurd (cc), λ e. absurd (cc))
times_decide (Some time) None = (λ e. absurd (cc), λ e. absurd (cc))
times_decide (Some time) (Some other) = (λ e. ap Some ((Decides-int_eq time other).0 e), λ e. (Decides-int_eq time other).1 (ap (λ (t : Option ℤ). unwrap_or t time) e))

-- timers that compare equal are the same
pub returns-then-eq : goal.returns-then-eq
returns-then-eq c =
    let same : c.args.timers ≡ c.get.result.now = (slice_eq-Decides times_decide c.args.timers c.get.result.now c.eq.result c.eq.ensures).0 c.if-eq.true in
    IfOk-weaker c.share.result _ _ (λ timers is. is ∙ sym (same ∙ c.get.ensures)) c.share.ensures
