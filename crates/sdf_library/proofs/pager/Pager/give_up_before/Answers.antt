use Rattle.std.proofs.Common.{◌≡◌, ◌-◌, ◌≤◌, [], length, drop, min, sym, ap, subst, ◌∙◌, arith}
use Rattle.std.specs.List.{list_any}
use Rattle.std.proofs.lemmas.List.{length-drop}
use Rattle.beam_values.specs.Lines.{is_line_feed}
use Rattle.sdf_library.specs.Paging.{Paged}
use Rattle.sdf_library.proofs.WholeLines.{whole_later}
use Rattle.sdf_library.proofs.pager.Pager.give_up_before.Goals.{then-first-self, else-first-self}
use Rattle.sdf_library.proofs.pager.Pager.give_up_before.Goals as goal

pub invariant_of-self : goal.invariant_of-self
invariant_of-self c =
    let within : c.args.p ≤ c.self.inside.len = subst (λ (q : Paged). c.args.p ≤ q.len) (sym c.self.view_is) c.requires in
    elim c.if-first-self.branch [
      | then-first-self w ↦
          let none : c.give_room_back.new.bytes.items ≡ [] = c.give_room_back.ensures ∙ ap (λ s. s.bytes.items) w.self-inside-is ∙ w.clear.ensures.items in
          let len = ap (λ s. s.len) w.self-inside-is in
          let noted = ap (λ s. s.quiet.to) w.self-inside-is in
          let unknown = ap (λ s. s.whole_to) w.self-inside-is in (
            omega (arith, ap length none, len, within, c.saturating_sub-first.ensures),
            omega (arith, len, c.self.invariant.1),
            omega (arith, noted, len, c.self.invariant.2),
            λ at above below. absurd (omega (arith, below, unknown)),
          )
      | else-first-self w ↦
          let bytes = c.self.inside.bytes.items in
          let first = c.saturating_sub-first.result in
          let base = c.self.inside.base in
          let skipped : w.min-skipped.result ≡ min (first - base) (length bytes) = omega (arith, w.min-skipped.ensures, w.len.ensures) in
          let left : c.give_room_back.new.bytes.items ≡ drop (min (first - base) (length bytes)) bytes =
          c.give_room_back.ensures ∙ ap (λ s. s.bytes.items) w.self-inside-is ∙ w.drop_front.ensures ∙ ap (λ n. drop n bytes) skipped in
          let len = ap (λ s. s.len) w.self-inside-is in
          let noted = ap (λ s. s.quiet.to) w.self-inside-is in
          let known = ap (λ s. s.whole_to) w.self-inside-is in (
            omega (arith, ap length left, length-drop (min (first - base) (length bytes)) bytes, len, within, c.saturating_sub-first.ensures, c.self.invariant.0, w.if-first-self),
            omega (arith, len, c.self.invariant.1),
            omega (arith, noted, len, c.self.invariant.2),
            λ at above below. ap (λ t. list_any is_line_feed (drop (at - first) t)) left
                ∙ whole_later base first bytes c.self.inside.whole_to (omega (arith, w.if-first-self)) c.self.invariant.3 at above (omega (arith, below, known)),
          )
    ]
