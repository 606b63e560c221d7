use Rattle.std.proofs.Common.{arith}
use Rattle.sdf_library.proofs.Pages.{served_from}
use Rattle.sdf_library.proofs.pager.Pager.find_line.Goals as goal

pub line_end-requires-clause-from_base : goal.line_end-requires-clause-from_base
line_end-requires-clause-from_base g c =
    omega (arith, served_from c.hold_start.new.self c.args.p c.in_ok-hold_start.ensures.serves)

pub is_whole_at-requires : goal.is_whole_at-requires
is_whole_at-requires g c = omega (arith, served_from c.hold_start.new.self c.args.p c.in_ok-hold_start.ensures.serves)
