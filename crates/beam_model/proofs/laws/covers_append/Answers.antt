use Rattle.std.proofs.lemmas.List.Sums.{sum_by-append}
use Rattle.beam_values.specs.Cover.{times_at}
use Rattle.beam_values.specs.declared.piece.Done.{Done}
use Rattle.beam_model.proofs.laws.covers_append.Goals as goal

pub returns : goal.returns
returns c a b place = sum_by-append (λ (d : Done). times_at d.node d.item d.range place) a b
