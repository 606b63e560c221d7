-- What contracts see of where a replay stands: of each work its job and how far it is, and not what is staged.
use Rattle.std.specs.Prelude.{map, Option}
use Rattle.std.specs.Option.{option_map}
use Rattle.lone_worker.specs.declared.work.Work.{Work}
use Rattle.schedule_replay.specs.Stands.{Stand, Working}
use Rattle.schedule_replay.specs.declared.stand.Stand.{Stand as Stood}

abbrev pub working_of : Work → Working
working_of work = record { job = work.job; next = work.next; stage = work.stage }

abbrev pub shown_slot : Option Work → Option Working
shown_slot work = option_map working_of work

abbrev pub shown_work : Option (Option Work) → Option (Option Working)
shown_work slot = option_map shown_slot slot

abbrev pub shown : Stood → Stand
shown stood = record { book = stood.book; works = map shown_slot stood.works.items }
