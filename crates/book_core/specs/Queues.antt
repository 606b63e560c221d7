-- What contracts see of the panes that wait at a node.
use Rattle.std.specs.Prelude.{ℕ, List}
use Rattle.book_core.specs.declared.live.WaitingPane.{WaitingPane}

-- the panes, oldest first, and how many more can come before memory is asked for
pub record SeenQueue : Type 0 where
  pub panes : List WaitingPane
  pub room : ℕ
