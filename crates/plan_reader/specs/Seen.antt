-- What the code's values are seen as.
use Rattle.std.specs.Prelude.{ℕ, List, map, Vec}
use Rattle.std.specs.Borrow.{Bor}
use Rattle.std.specs.declared.alloc.Global.{Global}
use Rattle.indexmap.specs.IndexSet.{IndexSet}

-- the texts that are borrowed
abbrev pub texts_of : Vec (Bor (List ℕ)) Global → List (List ℕ)
texts_of strings = map (λ string. string.now) strings.items

-- the names of nodes, by their numbers
abbrev pub names_in : {S : Type 0} → IndexSet (Bor (List ℕ)) S → List (List ℕ)
names_in names = map (λ name. name.now) names.keys
