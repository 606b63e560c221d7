-- The queues of a book, as they are kept with room.
use Rattle.std.proofs.Common.{◌≡◌, ℕ, ◌<◌, List, [], length, map, get_or, sym, ap, ◌∙◌}
use Rattle.std.specs.Prelude.{slice_get, slice_set, unwrap_or, Option}
use Rattle.std.specs.Option.{option_map}
use Rattle.std.proofs.lemmas.List.{length-map, map-set}
use Rattle.std.proofs.lemmas.Option.{slice_get-map, slice_get-get_or}
use Rattle.book_core.specs.Book.{SeenBook, queue_at}
use Rattle.book_core.specs.Queues.{SeenQueue}
use Rattle.book_core.specs.declared.live.WaitingPane.{WaitingPane}

abbrev pub lists_of : List SeenQueue → List (List WaitingPane)
lists_of queues = map (λ q. q.panes) queues

pub queue_in : (b : SeenBook) (node : ℕ) (queues : List SeenQueue) (queue : SeenQueue) → b.queues ≡ lists_of queues → node < length queues → queue ≡ get_or queues node queue
    → queue_at b node ≡ queue.panes
queue_in b node queues queue e within is =
    ap (λ (o : Option (List WaitingPane)). unwrap_or o [])
    (ap (λ (l : List (List WaitingPane)). slice_get l node) e ∙ slice_get-map (λ (q : SeenQueue). q.panes) queues node
    ∙ ap (option_map (λ (q : SeenQueue). q.panes)) (slice_get-get_or queues node queue within))
    ∙ ap (λ (q : SeenQueue). q.panes) (sym is)

pub lists_length : (queues : List SeenQueue) → length (lists_of queues) ≡ length queues
lists_length queues = length-map queues (λ (q : SeenQueue). q.panes)

pub lists_set : (queues : List SeenQueue) (node : ℕ) (queue : SeenQueue) → lists_of (slice_set queues node queue) ≡ slice_set (lists_of queues) node queue.panes
lists_set queues node queue = map-set (λ (q : SeenQueue). q.panes) queues node queue
