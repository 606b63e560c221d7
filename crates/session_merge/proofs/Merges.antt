-- What a merge of one more window leaves: windows in order, and the sessions of what was inserted.
use Rattle.std.proofs.Common.{◌≡◌, List, [], ◌∷◌, ◌++◌, Result, Ok, Err, sym, subst}
use Rattle.std.specs.List.{All, Contains}
use Rattle.std.specs.Result.{IfOk, OnErr}
use Rattle.beam_values.specs.Intervals.{Interval}
use Rattle.beam_values.specs.Sessions.{IsNonEmpty, IsSession}
use Rattle.session_merge.specs.Merging.{AreApart, GivesWay, AreSessionsOf}
use Rattle.session_merge.specs.Runs.{IsMerge}
use Rattle.session_merge.proofs.Inserting.{sessions_pushed}
use Rattle.session_merge.proofs.Places.{gives_way, hull_session, still_apart}

module _ (old : List Interval) (x : Interval) (run : List Interval) (h : Interval) (new : List Interval) (up : AreApart old) (merge : IsMerge old x run h new) where
  pub merge_apart : AreApart new
  merge_apart = still_apart old x h merge.front run merge.back merge.some up merge.found merge.least new merge.is

  pub merge_session : IsSession (old ++ x ∷ []) h
  merge_session = hull_session old x h merge.front run merge.back merge.some up merge.found merge.least

  pub merge_gives_way : GivesWay old run h new
  merge_gives_way = gives_way old x h merge.front run merge.back merge.some up merge.found merge.least new merge.is

  pub merge_sessions : (spans : List Interval) → All IsNonEmpty spans → AreSessionsOf (Contains spans) old → AreSessionsOf (Contains (spans ++ x ∷ [])) new
  merge_sessions spans all are = sessions_pushed spans old new run x h merge.some all merge_session merge.least.holds merge_gives_way are

-- windows stay in order, whether or not there was memory
pub apart_after : {M E : Type 0} (r : Result M E) (span : M → Interval) (absorbed : M → List Interval) (old : List Interval) (x : Interval) (new : List Interval)
    → AreApart old → IfOk r (λ m. IsMerge old x (absorbed m) (span m) new) → OnErr r (new ≡ old) → AreApart new
apart_after (Ok m) span absorbed old x new up ok err = merge_apart old x (absorbed m) (span m) new up ok
apart_after (Err e) span absorbed old x new up ok err = subst AreApart (sym err) up
