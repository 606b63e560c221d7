use Rattle.std.proofs.Common.{◌≡◌, ◌↔◌, Bool, IsTrue, sym, subst, rules}
use Rattle.std.proofs.lemmas.Fn.{always_returns_same}
use Rattle.split_core.specs.Partition.{IsListed}
use Rattle.piece_checks.specs.Orders.{item_cmp}
use Rattle.piece_checks.proofs.Listing.{searched, wanted}
use Rattle.piece_checks.proofs.listed.is_listed.Goals as goal

pub returns : goal.returns
returns c =
    let files = c.args.files.now in
    let node = c.args.node in
    let item = c.args.item in
    let found =
    c.binary_search_by.ensures.position (λ y. item_cmp y (wanted node item))
    (always_returns_same _ (λ a r. r ≡ item_cmp a.0.now (wanted node item)) _ (λ a r f k. search rules)) in
    subst (λ (b : Bool). IsTrue b ↔ IsListed files node item) (sym c.is_ok.ensures.value)
    (searched node item files c.binary_search_by.result c.requires c.binary_search_by.ensures.bound found)
