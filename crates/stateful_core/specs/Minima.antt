-- The least hold of each element that waits and all behind it, without a look at all.
use Rattle.std.specs.Prelude.{◌≡◌, ℕ, ℤ, ◌<◌, ◌≤ℤ◌, List, [], ◌∷◌, ◌++◌, map, replicate, Option, Some, None}
use Rattle.std.specs.Int.{int_min}
use Rattle.std.specs.List.{All, flat_map}
use Rattle.stateful_core.specs.declared.minima.Run.{Run}

abbrev pub with_low : ℤ → List ℤ → List ℤ
with_low hold [] = hold ∷ []
with_low hold (low ∷ lows) = int_min hold low ∷ (low ∷ lows)

-- Of each the least of it and all behind it. Of 5, 3, 8 they are 3, 3, 8, and with 4 behind these 3, 3, 4, 4.
abbrev pub lows_of : List ℤ → List ℤ
lows_of [] = []
lows_of (hold ∷ holds) = with_low hold (lows_of holds)

-- the lesser of a mark and another, where there is one
abbrev pub lowered : ℤ → Option ℤ → ℤ
lowered mark None = mark
lowered mark (Some other) = int_min mark other

-- what runs stand for. Two of 3 and one of 8 are 3, 3, 8; a 4 behind these joins the last, so there are two of 3 and two of 4 then
abbrev pub spread : List Run → List ℤ
spread runs = flat_map (λ run. replicate run.count run.least) runs

-- none is empty, and none has a higher one in front of it
abbrev pub AreRising : List Run → Type 0
AreRising [] = Unit {0}
AreRising (run ∷ runs) = (0 < run.count) × All (λ later. run.least ≤ℤ later.least) runs × AreRising runs

-- the last run, if there is one, is no higher
pub record IsBelow (hold : ℤ) (runs : List Run) : Type 0 where
  pub last : (front : List Run) (run : Run) → runs ≡ front ++ run ∷ [] → run.least ≤ℤ hold

-- the last run, if there is one, is no lower
pub record IsAbove (hold : ℤ) (runs : List Run) : Type 0 where
  pub last : (front : List Run) (run : Run) → runs ≡ front ++ run ∷ [] → hold ≤ℤ run.least

-- the last run leaves where it is no lower
abbrev pub IsPopped : ℤ → List Run → List Run → Option Run → Type 0
IsPopped hold old new None = (new ≡ old) × IsBelow hold old
IsPopped hold old new (Some run) = (old ≡ new ++ run ∷ []) × (hold ≤ℤ run.least)

-- the last runs leave where they are no lower; so many elements with this hold stand for theirs and one more
pub record AreJoined (hold : ℤ) (old new : List Run) (count : ℕ) : Type 0 where
  pub lows : spread new ++ replicate count hold ≡ map (int_min hold) (spread old) ++ hold ∷ []
  pub rising : AreRising (new ++ (record { count = count; least = hold }) ∷ [])

-- what contracts see: the least holds in order, and for how many elements more there is room
pub record SeenMinima : Type 0 where
  pub lows : List ℤ
  pub room : ℕ
