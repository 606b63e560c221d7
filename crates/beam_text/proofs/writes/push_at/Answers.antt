use Rattle.beam_text.proofs.Written.{put_here, put_elsewhere}
use Rattle.beam_text.proofs.writes.push_at.Goals as goal

pub returns-in_ok-push-clause-added : goal.returns-in_ok-push-clause-added
returns-in_ok-push-clause-added c =
    λ within. put_here c.args.lists.now.items c.args.node c.index_mut-list.result.now c.push.new.self c.args.element within c.index_mut-list.ensures.value c.in_ok-push.ensures.items

pub returns-in_ok-push-clause-others : goal.returns-in_ok-push-clause-others
returns-in_ok-push-clause-others c = put_elsewhere c.args.lists.now.items c.args.node c.push.new.self
