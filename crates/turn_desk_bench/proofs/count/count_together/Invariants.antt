use Rattle.turn_desk_bench.proofs.count.count_together.Given as goal

abbrev pub ghost-new : goal.ghost-new
ghost-new g a = record {}
