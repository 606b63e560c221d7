-- Hands of pieces, each folded by a kit of its own.
use Rattle.std.specs.Prelude.{◌≡◌, ℕ, Bool, List, ◌∷◌, ◌++◌, map, Option, Result, Err, IfOk, IfErr, IsOk}
use Rattle.std.specs.List.{All, AllByRecursion}
use Rattle.beam_values.specs.declared.file_text.FileText.{FileText}
use Rattle.beam_values.specs.declared.piece.Piece.{Piece}
use Rattle.beam_values.specs.declared.plan.Plan.{Plan}
use Rattle.beam_values.specs.declared.value.Value.{Value}
use Rattle.beam_ports.specs.Files.{Opening}
use Rattle.beam_ports.specs.Observed.{ObservedStore, observed_store}
use Rattle.bundle_work.specs.Openings.{AreOpened, file_names}
use Rattle.bundle_work.specs.Outside.{IsKitKept}
use Rattle.bundle_work.specs.Reading.{opened_lengths}
use Rattle.bundle_work.specs.declared.kit.Kit.{Kit}
use Rattle.chain_exec.specs.Causes.{ObservedShelf, observed_shelf}
use Rattle.split_core.specs.Partition.{range_of}
use Rattle.combine_lift.specs.Tables.{Table}
use Rattle.combine_plan.specs.Combined.{known_of}
use Rattle.combine_plan.specs.Dealing.{IsWithin, ranges_in}
use Rattle.combine_plan.specs.Folding.{IsFold, IsFoldRefused}
use Rattle.combine_plan.specs.declared.crew.Seat.{Seat}
use Rattle.combine_plan.specs.declared.refusal.CombineRefusal.{CombineRefusal}

-- the kit has opened the files of the plan, and the pieces of the hand lie in its items
pub record CanFold {F S : Type 0} (files_of : S → Option (List FileText)) (opened_by : S → ℕ → Option Opening) (plan : Plan) (kit : Kit F S) (hand : List Piece) : Type 0 where
  pub opened : AreOpened (files_of kit.store) (opened_by kit.store) (file_names plan) kit.files
  pub within : All (IsWithin (opened_lengths plan kit.files)) hand

-- what was observed while pieces of a plan were folded, which may fail so often
pub record Scene : Type 0 where
  pub shelf : ObservedShelf
  pub store : ObservedStore
  pub plan : Plan
  pub attempts : ℕ

-- a hand was folded into a table, or there is a cause why it wasn't
pub record IsHandFolded {A : Type 0} (stands : A → List Value → Type 0) (takes : Value → Bool) (scene : Scene) (hand : List Piece) (result : Result (Table A) CombineRefusal) : Type 0 where
  pub folded : IfOk result (IsFold stands (known_of scene.shelf scene.store) scene.plan (map range_of hand))
  pub refused : IfErr result (IsFoldRefused takes (known_of scene.shelf scene.store) scene.shelf scene.store scene.plan scene.attempts (map range_of hand) 0)

-- ---- the seats of kits

abbrev pub hands_of : {P : Type 0} → List (Seat P) → List (List Piece)
hands_of seats = map (λ seat. seat.hand) seats

abbrev pub IsSeatFolded : {A : Type 0} → (A → List Value → Type 0) → (Value → Bool) → Scene → Seat (Table A) → Type 0
IsSeatFolded stands takes scene seat = IsHandFolded stands takes scene seat.hand seat.folded

-- what was observed of one kit
abbrev pub scene_at : {F S : Type 0} → (F → Bool) → (F → ℕ) → (S → Option (List FileText)) → (S → ℕ) → Plan → ℕ → Kit F S → Kit F S → Scene
scene_at is_strict faults_of files_of fails_of plan attempts kit after = record {
  shelf = observed_shelf is_strict faults_of kit.shelf after.shelf;
  store = observed_store files_of fails_of kit.store after.store;
  plan = plan;
  attempts = attempts;
}

-- a kit worked the hand of a seat
pub record HasSat {F S A : Type 0} (is_strict : F → Bool) (faults_of : F → ℕ) (files_of : S → Option (List FileText)) (fails_of : S → ℕ) (opened_by : S → ℕ → Option Opening)
    (stands : A → List Value → Type 0) (takes : Value → Bool) (plan : Plan) (attempts : ℕ) (kit after : Kit F S) (seat left : Seat (Table A)) : Type 0 where
  pub hand : left.hand ≡ seat.hand
  pub folded : IsHandFolded stands takes (scene_at is_strict faults_of files_of fails_of plan attempts kit after) seat.hand left.folded
  pub files : after.files ≡ kit.files
  pub kept : IsKitKept faults_of is_strict fails_of files_of opened_by kit.shelf after.shelf kit.store after.store

-- a table of the hands of all seats, in whatever scene each was folded
abbrev pub AreJoined : {A : Type 0} → (A → List Value → Type 0) → (Value → Bool) → List (Seat (Table A)) → Table A → Type 0
AreJoined stands takes seats table =
    (scene : Scene) → AllByRecursion (IsSeatFolded stands takes scene) seats → IsFold stands (known_of scene.shelf scene.store) scene.plan (ranges_in (hands_of seats)) table

-- why there is none
abbrev pub AreUnjoined : {A : Type 0} → (A → List Value → Type 0) → (Value → Bool) → List (Seat (Table A)) → CombineRefusal → Type 0
AreUnjoined stands takes seats refusal =
    (scene : Scene) → AllByRecursion (IsSeatFolded stands takes scene) seats
    → IsFoldRefused takes (known_of scene.shelf scene.store) scene.shelf scene.store scene.plan scene.attempts (ranges_in (hands_of seats)) 0 refusal

-- the first of the seats that was refused was refused so
pub record IsFirstRefused {P : Type 0} (seats : List (Seat P)) (refusal : CombineRefusal) : Type 0 where
  pub before : List (Seat P)
  pub seat : Seat P
  pub after : List (Seat P)
  pub split : seats ≡ before ++ seat ∷ after
  pub earlier : All (λ other. IsOk other.folded) before
  pub refused : seat.folded ≡ Err refusal
