-- The text of a replay: what each line of its schedule did to the book of a run, and where the book stands at the end.
use Rattle.std.specs.Prelude.{◌≡◌, ℕ, ◌+◌, ◌<◌, ◌≤◌, Bool, true, false, List, [], ◌∷◌, ◌++◌, map, length, take, slice_get, codes, replicate, Option, Some, None}
use Rattle.std.specs.List.{All, flat_map}
use Rattle.std.specs.List.Sorted.{IsSorted}
use Rattle.beam_values.specs.Bags.{IsSameBag}
use Rattle.beam_values.specs.Lines.{offsets}
use Rattle.beam_values.specs.Storable.{IsStorable}
use Rattle.beam_values.specs.declared.file_text.FileText.{FileText}
use Rattle.beam_values.specs.declared.options.Options.{Options}
use Rattle.beam_values.specs.declared.outcome.Outcome.{Outcome}
use Rattle.beam_values.specs.declared.piece.Dead.{Dead}
use Rattle.beam_values.specs.declared.piece.Done.{Done}
use Rattle.beam_values.specs.declared.piece.FileLen.{FileLen}
use Rattle.beam_values.specs.declared.piece.Piece.{Piece}
use Rattle.beam_values.specs.declared.plan.Plan.{Plan}
use Rattle.beam_model.specs.Rendering.{IsRendering}
use Rattle.beam_text.specs.declared.refusal.ScheduleRefusal.{ScheduleRefusal}
use Rattle.beam_text.specs.declared.refusal.ScheduleRefusal.TheVariants as refusal
use Rattle.book_core.specs.Book.{SeenBook, live_pieces}
use Rattle.book_core.specs.Calls.{IsOutcomeOf}
use Rattle.book_core.specs.Changes.{done_cmp}
use Rattle.book_core.specs.Jobs.{next_job}
use Rattle.book_core.specs.Runs.{IsOpening, MadeStep, Run}
use Rattle.book_core.specs.Steps.{Enroll, Enrolled, IsIdle, IsRunning}
use Rattle.book_core.specs.Work.{Surroundings}
use Rattle.known_jobs.specs.Jobs.{Setting}
use Rattle.bundle_work.specs.declared.kit.Kit.{Kit}
use Rattle.schedule_words.specs.Schedules.{line_of, lines_of}
use Rattle.schedule_words.specs.Told.{position_line, range_line}
use Rattle.schedule_words.specs.declared.line.Line.{Line}
use Rattle.schedule_words.specs.declared.line.Line.TheVariants as line
use Rattle.schedule_replay.specs.Drains.{IsDrainDone}
use Rattle.schedule_replay.specs.Lines.{IsOneDone}
use Rattle.schedule_replay.specs.Stands.{Stand, is_allowed}
use Rattle.schedule_replay.specs.Works.{AreHonestWorks, Counts, Worked}
use Rattle.schedule_replay.specs.declared.schedule.ReplayRefusal.{ReplayRefusal}
use Rattle.schedule_replay.specs.declared.schedule.ReplayRefusal.TheVariants.{Bad, NoMemory}

-- a schedule has so many bytes at most
abbrev pub longest : ℕ
longest = 1048576

-- ---- lines

abbrev pub IsLineDone : Option (List FileText) → Stand → Line → List MadeStep → List Worked → List ℕ → Stand → Type 0
IsLineDone told s line.Drain steps works text new = IsDrainDone told s steps works text new
IsLineDone told s one steps works text new = IsOneDone told s one steps works text new

-- a line of a schedule is one, is allowed where it stands, and was worked
pub record IsWorkedLine (told : Option (List FileText)) (s : Stand) (words : List ℕ) (steps : List MadeStep) (works : List Worked) (text : List ℕ) (new : Stand) : Type 0 where
  pub one : Line
  pub is : line_of words ≡ Some one
  pub allowed : is_allowed s one ≡ true
  pub done : IsLineDone told s one steps works text new

-- Lines were worked one after another: the steps, the works and what is printed are theirs.
abbrev pub AreWorked : Option (List FileText) → Stand → List (List ℕ) → List MadeStep → List Worked → List ℕ → Stand → Type 0
AreWorked told s [] steps works text end = (steps ≡ []) × (works ≡ []) × (text ≡ []) × (end ≡ s)
AreWorked told s (words ∷ lines) steps works text end =
    (mid : Stand) × (own : List MadeStep) × (later : List MadeStep) × (own_works : List Worked) × (later_works : List Worked) × (line : List ℕ) × (rest : List ℕ)
    × IsWorkedLine told s words own own_works line mid × AreWorked told mid lines later later_works rest end
    × (steps ≡ own ++ later) × (works ≡ own_works ++ later_works) × (text ≡ line ++ rest)

-- ---- the beginning

-- the steps that enroll so many slots
abbrev pub enrolls : ℕ → List MadeStep
enrolls count = map (λ number. record { slot = number; action = Enroll; answer = Enrolled number }) (offsets 0 count)

-- the book of the plan with its slots, none of which works
pub record IsBeginning (told : Option (List FileText)) (plan : Plan) (files : List FileLen) (options : Options) (s : Stand) : Type 0 where
  pub first : SeenBook
  pub opening : IsOpening plan files options first
  pub enrolled : Run told first (enrolls options.workers) s.book
  pub free : s.works ≡ replicate options.workers None

-- ---- the end

abbrev pub break : List ℕ
break = codes "--" ++ 10 ∷ []

abbrev pub done_line : Done → List ℕ
done_line done = range_line (codes "done") done.node done.item done.range

abbrev pub live_line : Done → List ℕ
live_line done = range_line (codes "live") done.node done.item done.range

abbrev pub pending_line : Piece → List ℕ
pending_line piece = range_line (codes "pending") piece.node piece.item piece.range

abbrev pub position_of : Dead → List ℕ
position_of dead = position_line (codes "dead") dead.node dead.item dead.at

-- a piece as a range of its item
abbrev pub as_done : Piece → Done
as_done piece = record { node = piece.node; item = piece.item; range = piece.range }

-- the run goes on, nothing is left to take, and nothing is worked
abbrev pub IsFinished : SeenBook → Type 0
IsFinished b = IsRunning b × (next_job b ≡ None) × IsIdle b

-- the rendering of the book's data
pub record IsRendered (b : SeenBook) (text : List ℕ) : Type 0 where
  pub outcome : Outcome
  pub is : IsOutcomeOf b outcome
  pub rendered : IsRendering outcome text

-- The ranges that are done, live and pending and the dead positions, each group ascending; and of a run that is finished, and of no other one, the rendering of its outcome.
pub record IsEnding (b : SeenBook) (text : List ℕ) : Type 0 where
  pub live : List Done
  pub all : IsSameBag live (map as_done (live_pieces b))
  pub ascending : IsSorted done_cmp live
  pub rest : List ℕ
  pub finished : IsFinished b → (rendering : List ℕ) × IsRendered b rendering × (rest ≡ break ++ rendering)
  pub unfinished : (IsFinished b → ⊥) → rest ≡ []
  pub printed : text ≡ break ++ (flat_map done_line b.done ++ (flat_map live_line live ++ (flat_map pending_line b.pending ++ (flat_map position_of b.dead ++ rest))))

-- ---- the whole

-- The schedule was worked line by line, from the opening of a run of this plan on, and this is printed.
pub record IsReplay (told : Option (List FileText)) (plan : Plan) (files : List FileLen) (options : Options) (schedule : List ℕ) (steps : List MadeStep) (works : List Worked) (book : SeenBook)
    (text : List ℕ) : Type 0 where
  pub start : Stand
  pub begins : IsBeginning told plan files options start
  pub own : List MadeStep
  pub made : steps ≡ enrolls options.workers ++ own
  pub end : Stand
  pub lines : List ℕ
  pub worked : AreWorked told start (lines_of schedule) own works lines end
  pub is : end.book ≡ book
  pub tail : List ℕ
  pub ends : IsEnding book tail
  pub printed : text ≡ lines ++ tail

-- what is known outside the book by one kit
abbrev pub known_by : {F S : Type 0} → (F → Bool) → (S → Option (List FileText)) → Kit F S → Surroundings
known_by strict files kit = record { told = files kit.store; strict = strict kit.shelf }

abbrev pub setting_of : Surroundings → Plan → List FileLen → Options → Setting
setting_of known plan files options = record { known = known; plan = plan; files = files; options = options }

-- what a replay answers: the text, and what its works were and what was counted in them
pub record IsReplayed (known : Surroundings) (before after : Counts) (plan : Plan) (files : List FileLen) (options : Options) (schedule text : List ℕ) : Type 0 where
  pub steps : List MadeStep
  pub works : List Worked
  pub book : SeenBook
  pub short : length schedule ≤ longest
  pub is : IsReplay known.told plan files options schedule steps works book text
  pub honest : AreHonestWorks known before after plan works
  -- the numbers in panes have 64 bits
  pub storable : All (λ pane. IsStorable pane.element.value) book.panes

-- ---- why a schedule is refused

-- the line of this number, from 1, is the first that isn't worked: those before it are, honestly
pub record IsReachedLine (known : Surroundings) (before after : Counts) (plan : Plan) (start : Stand) (lines : List (List ℕ)) (number : ℕ) (words : List ℕ) (s : Stand) : Type 0 where
  pub at : ℕ
  pub counted : number ≡ at + 1
  pub is : slice_get lines at ≡ Some words
  pub steps : List MadeStep
  pub works : List Worked
  pub text : List ℕ
  pub worked : AreWorked known.told start (take at lines) steps works text s
  pub honest : AreHonestWorks known before after plan works
  pub storable : All (λ pane. IsStorable pane.element.value) s.book.panes

-- it has no form of a line, or isn't allowed where it stands
abbrev pub IsLineRefusedIn : Surroundings → Counts → Counts → Plan → Stand → List (List ℕ) → ScheduleRefusal → Type 0
IsLineRefusedIn known before after plan start lines (refusal.Line number) =
    (words : List ℕ) × (s : Stand) × IsReachedLine known before after plan start lines number words s × (line_of words ≡ None)
IsLineRefusedIn known before after plan start lines (refusal.NotAllowed number) =
    (words : List ℕ) × (s : Stand) × IsReachedLine known before after plan start lines number words s × (one : Line) × (line_of words ≡ Some one) × (is_allowed s one ≡ false)
IsLineRefusedIn known before after plan start lines (refusal.Length len) = ⊥

-- so it is from the beginning of a run on
pub record IsLineRefusal (known : Surroundings) (before after : Counts) (plan : Plan) (files : List FileLen) (options : Options) (schedule : List ℕ) (why : ScheduleRefusal) : Type 0 where
  pub short : length schedule ≤ longest
  pub start : Stand
  pub begins : IsBeginning known.told plan files options start
  pub refused : IsLineRefusedIn known before after plan start (lines_of schedule) why

-- a schedule is refused where it is too long, and else for a line of it
abbrev pub IsScheduleRefused : Surroundings → Counts → Counts → Plan → List FileLen → Options → List ℕ → ScheduleRefusal → Type 0
IsScheduleRefused known before after plan files options schedule (refusal.Length len) = (len ≡ length schedule) × (longest < length schedule)
IsScheduleRefused known before after plan files options schedule why = IsLineRefusal known before after plan files options schedule why

abbrev pub IsReplayRefused : Surroundings → Counts → Counts → Plan → List FileLen → Options → List ℕ → ReplayRefusal → Type 0
IsReplayRefused known before after plan files options schedule (Bad refusal) = IsScheduleRefused known before after plan files options schedule refusal
IsReplayRefused known before after plan files options schedule NoMemory = Unit {0}
