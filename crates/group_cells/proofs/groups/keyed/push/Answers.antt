use Rattle.std.proofs.Common.{◌≡◌, ◌+◌, List, rules}
use Rattle.std.specs.BTreeMap.{BTreeMap, insert_entry}
use Rattle.std.proofs.lemmas.Result.{on_ok_weaker}
use Rattle.group_cells.specs.KeyLists.{all_listed, group_key_cmp}
use Rattle.group_cells.specs.declared.groups.keyed.GroupKey.{GroupKey}
use Rattle.group_cells.proofs.KeyMaps.{count_after_push}
use Rattle.group_cells.proofs.groups.keyed.push.Goals as goal

pub returns-clause-count : goal.returns-clause-count
returns-clause-count g c =
    on_ok_weaker c.push.result
    (λ pushed.
    let count : (new : BTreeMap GroupKey (List g.row.T.Denot)) → new.entries ≡ insert_entry group_key_cmp c.args.lists.now.entries c.args.key c.push.new.self
    → all_listed new ≡ all_listed c.args.lists.now + 1 =
    λ new entries. count_after_push c.args.lists.now new c.args.key c.push.new.self c.args.item c.in_ok-lists.ensures.ordered entries (search rules) in
    search (rules, count))
    c.push.ensures.ok
