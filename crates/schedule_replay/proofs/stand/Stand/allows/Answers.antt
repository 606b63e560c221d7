use Rattle.std.proofs.Common.{◌∙◌, ap, sym}
use Rattle.std.specs.Prelude.{is_none}
use Rattle.std.specs.List.{list_all}
use Rattle.schedule_replay.specs.Shown.{shown}
use Rattle.schedule_replay.specs.Stands.{is_allowed}
use Rattle.schedule_replay.proofs.Noted.{none_works}
use Rattle.schedule_replay.proofs.stand.Stand.allows.Goals as goal

pub returns-in-Drain : goal.returns-in-Drain
returns-in-Drain c =
    c.are_free.ensures
    ∙ ap (list_all is_none) c.as_slice-works.ensures.value
    ∙ sym (none_works c.args.self.now.works.items)
    ∙ sym (ap (is_allowed (shown c.args.self.now)) c.in-Drain.is)
