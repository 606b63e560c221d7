-- Lines of a drain are worked one after another.
use Rattle.std.proofs.Common.{◌≡◌, ℕ, ◌<◌, Bool, true, false, List, [], ◌∷◌, ◌++◌, append_assoc, refl, sym, ap, ◌∙◌, subst, arith}
use Rattle.std.specs.Prelude.{Option, Some, None, not, nat_lt, if◌then◌else◌}
use Rattle.std.proofs.lemmas.Bool.Decides.{nat_tests}
use Rattle.std.proofs.lemmas.List.{append-nil}
use Rattle.beam_values.specs.declared.file_text.FileText.{FileText}
use Rattle.beam_values.specs.declared.options.Options.{Options}
use Rattle.beam_ports.specs.Observed.{ObservedStore, observed_store}
use Rattle.bundle_commit.specs.declared.job.Job.{Job}
use Rattle.bundle_commit.specs.declared.job.Job.TheVariants as job
use Rattle.chain_exec.specs.Causes.{ObservedShelf, observed_shelf}
use Rattle.lone_worker.specs.Work.{Base, may_claim_in, may_run_in}
use Rattle.lone_worker.specs.declared.work.ClaimEnd.{ClaimEnd}
use Rattle.lone_worker.specs.declared.work.Stage.{Stage}
use Rattle.lone_worker.specs.declared.work.Stage.TheVariants as stage
use Rattle.schedule_words.specs.Told.{told_text}
use Rattle.schedule_words.specs.declared.line.Line.{Line}
use Rattle.schedule_words.specs.declared.line.Line.TheVariants as line
use Rattle.schedule_words.specs.declared.told.Told.TheVariants as answered
use Rattle.schedule_words.specs.declared.told.Took.{Took}
use Rattle.schedule_replay.specs.Draining.{AreLinesDrained, HasDrained, IsJobWorked, IsLastOfJob, IsLastTake, ends_job, has_failed, is_faulted}
use Rattle.schedule_replay.specs.Drains.{AreDrained, AreEmitted, Drained, HasGot, IsDrainedBy, drain_line, line_of_stage, steps_of, works_of}
use Rattle.schedule_replay.specs.Lines.{IsOneDone}
use Rattle.schedule_replay.specs.Standing.{AreHonest, HasClaimed, HasCommitted, HasFailed, HasRun, HasTaken, claimed_of, emitted_after}
use Rattle.schedule_replay.specs.Stands.{Stand, Working, has_job, is_allowed, may_claim, may_commit, may_commit_in, may_fail, may_run, may_take, work_at}
use Rattle.schedule_replay.specs.Works.{Worked}
use Rattle.schedule_replay.proofs.Traces.{honest_none, honest_then}

-- ---- one after another

drained_then : (told : Option (List FileText)) (bundle emitted middle last : ℕ) (s mid end : Stand) (lines others : List Drained) → AreDrained told bundle emitted s lines middle mid
    → AreDrained told bundle middle mid others last end → AreDrained told bundle emitted s (lines ++ others) last end
drained_then told bundle emitted middle last s mid end [] others one two =
    subst (λ (e : ℕ). AreDrained told bundle e s others last end) one.0 (subst (λ (x : Stand). AreDrained told bundle middle x others last end) one.1 two)
drained_then told bundle emitted middle last s mid end (line ∷ lines) others one two = (one.0, drained_then told bundle line.emitted middle last line.stand mid end lines others one.1 two)

works_then : (lines others : List Drained) → works_of (lines ++ others) ≡ works_of lines ++ works_of others
works_then [] others = refl
works_then (line ∷ lines) others = ap (λ (t : List Worked). line.works ++ t) (works_then lines others) ∙ sym (append_assoc line.works (works_of lines) (works_of others))

module _ (base : Base) {F S : Type 0} (strict : F → Bool) (faults : F → ℕ) (files : S → Option (List FileText)) (reads : S → ℕ) where
  pub lines_then : (shelf mid_shelf last_shelf : F) (store mid_store last_store : S) (before middle after : ℕ) (s mid end : Stand)
      → AreLinesDrained base (observed_shelf strict faults shelf mid_shelf) (observed_store files reads store mid_store) before middle s mid
      → AreLinesDrained base (observed_shelf strict faults mid_shelf last_shelf) (observed_store files reads mid_store last_store) middle after mid end
      → AreLinesDrained base (observed_shelf strict faults shelf last_shelf) (observed_store files reads store last_store) before after s end
  lines_then shelf mid_shelf last_shelf store mid_store last_store before middle after s mid end one two =
      let both = honest_then base strict faults files reads shelf mid_shelf last_shelf store mid_store last_store (works_of one.lines) (works_of two.lines) one.honest two.honest in
      record {
        lines = one.lines ++ two.lines;
        drained = drained_then base.setting.known.told base.setting.options.bundle before middle after s mid end one.lines two.lines one.drained two.drained;
        honest = subst (AreHonest base (observed_shelf strict faults shelf last_shelf) (observed_store files reads store last_store)) (sym (works_then one.lines two.lines)) both;
      }

-- ---- one line

-- where this is the next one
drained_by : (base : Base) (emitted : ℕ) (s : Stand) (one : Drained) (next : Line) → drain_line base.setting.options.bundle emitted (work_at s 0) ≡ next → is_allowed s next ≡ true
    → IsOneDone base.setting.known.told s next one.steps one.works one.text one.stand → HasGot next one.stand → AreEmitted base.setting.known.told s.book.plan (work_at s 0) next one.works emitted one.emitted
    → IsDrainedBy base.setting.known.told base.setting.options.bundle emitted s one
drained_by base emitted s one next is may done got counted = record {
  allowed = subst (λ (l : Line). is_allowed s l ≡ true) (sym is) may;
  done = subst (λ (l : Line). IsOneDone base.setting.known.told s l one.steps one.works one.text one.stand) (sym is) done;
  got = subst (λ (l : Line). HasGot l one.stand) (sym is) got;
  counted = subst (λ (l : Line). AreEmitted base.setting.known.told s.book.plan (work_at s 0) l one.works emitted one.emitted) (sym is) counted;
}

module _ (base : Base) (shelf : ObservedShelf) (store : ObservedStore) where
  pub lines_none : (emitted : ℕ) (s : Stand) → AreHonest base shelf store [] → AreLinesDrained base shelf store emitted emitted s s
  lines_none emitted s none = record { lines = []; drained = (refl, refl); honest = none }

  lines_one : (emitted : ℕ) (s : Stand) (one : Drained) → IsDrainedBy base.setting.known.told base.setting.options.bundle emitted s one → AreHonest base shelf store one.works
      → AreLinesDrained base shelf store emitted one.emitted s one.stand
  lines_one emitted s one is honest =
      record { lines = one ∷ []; drained = (is, (refl, refl)); honest = subst (AreHonest base shelf store) (sym (append-nil one.works)) honest }

  pub take_line : (emitted : ℕ) (s new : Stand) (what : Took) → may_take (work_at s 0) ≡ true → HasTaken base.setting.known.told s new 0 what → has_job (work_at new 0) ≡ true → AreHonest base shelf store []
      → AreLinesDrained base shelf store emitted 0 s new
  take_line emitted s new what may has got none =
      let one : Drained = record { steps = has.steps; works = []; text = told_text (answered.Taken 0 what); stand = new; emitted = 0 } in
      lines_one emitted s one (drained_by base emitted s one (line.Take 0) (by (work_at s 0) may) may (has.answer, what, has.done) got refl) none
    where
      by : (work : Option (Option Working)) → may_take work ≡ true → drain_line base.setting.options.bundle emitted work ≡ line.Take 0
      by None may = absurd (cc)
      by (Some None) may = refl
      by (Some (Some work)) may = absurd (cc)

  pub claim_line : (emitted : ℕ) (s new : Stand) (p : ℕ) (end : ClaimEnd) → emitted < base.setting.options.bundle → may_claim (work_at s 0) ≡ true → HasClaimed base shelf store s new 0 p end
      → AreLinesDrained base shelf store emitted (emitted_after emitted end) s new
  claim_line emitted s new p end few may has =
      let one : Drained = record { steps = has.steps; works = has.works; text = told_text (answered.Claim 0 p (claimed_of end)); stand = new; emitted = emitted_after emitted end } in
      lines_one emitted s one (drained_by base emitted s one (line.Claim 0) (by (work_at s 0) may) may has.done tt (has.counted emitted)) has.honest
    where
      below : nat_lt emitted base.setting.options.bundle ≡ true
      below = grind (arith, nat_tests)

      of_job : (whole : Job) (s : Stage) → may_claim_in whole s ≡ true → line_of_stage base.setting.options.bundle emitted whole s ≡ line.Claim 0
      of_job (job.Span piece) stage.Open may = ap (λ (b : Bool). if b then line.Claim 0 else line.Commit 0) below
      of_job (job.Span piece) stage.Over may = absurd (cc)
      of_job (job.Span piece) (stage.Faulted at cause) may = absurd (cc)
      of_job (job.Batch node first panes attempts) s may = absurd (cc)
      of_job (job.Key node cell key span inputs state timers attempts) s may = absurd (cc)

      by : (work : Option (Option Working)) → may_claim work ≡ true → drain_line base.setting.options.bundle emitted work ≡ line.Claim 0
      by None may = absurd (cc)
      by (Some None) may = absurd (cc)
      by (Some (Some work)) may = of_job work.job work.stage may

  pub run_line : (emitted : ℕ) (s new : Stand) (worked : Bool) → may_run (work_at s 0) ≡ true → HasRun base shelf store s new 0 worked → AreLinesDrained base shelf store emitted emitted s new
  run_line emitted s new worked may has =
      let one : Drained = record { steps = []; works = has.works; text = told_text (answered.Ran 0 (not worked)); stand = new; emitted = emitted } in
      lines_one emitted s one (drained_by base emitted s one (line.RunJob 0) (by (work_at s 0) may) may has.done tt refl) has.honest
    where
      of_job : (whole : Job) (s : Stage) → may_run_in whole s ≡ true → line_of_stage base.setting.options.bundle emitted whole s ≡ line.RunJob 0
      of_job (job.Span piece) s may = absurd (cc)
      of_job (job.Batch node first panes attempts) stage.Open may = refl
      of_job (job.Batch node first panes attempts) stage.Over may = absurd (cc)
      of_job (job.Batch node first panes attempts) (stage.Faulted at cause) may = absurd (cc)
      of_job (job.Key node cell key span inputs state timers attempts) stage.Open may = refl
      of_job (job.Key node cell key span inputs state timers attempts) stage.Over may = absurd (cc)
      of_job (job.Key node cell key span inputs state timers attempts) (stage.Faulted at cause) may = absurd (cc)

      by : (work : Option (Option Working)) → may_run work ≡ true → drain_line base.setting.options.bundle emitted work ≡ line.RunJob 0
      by None may = absurd (cc)
      by (Some None) may = absurd (cc)
      by (Some (Some work)) may = of_job work.job work.stage may

-- ---- the line that ends a job

module _ (base : Base) (emitted : ℕ) (s : Stand) (ends : ends_job (drain_line base.setting.options.bundle emitted (work_at s 0)) ≡ true) where
  abbrev bundle : ℕ
  bundle = base.setting.options.bundle

  fails_stage : (whole : Job) (at : Stage) → is_faulted at ≡ true → line_of_stage bundle emitted whole at ≡ line.Fail 0
  fails_stage whole stage.Open failed = absurd (cc)
  fails_stage whole stage.Over failed = absurd (cc)
  fails_stage whole (stage.Faulted at cause) failed = refl

  fails_at : (work : Option (Option Working)) → has_failed work ≡ true → drain_line bundle emitted work ≡ line.Fail 0
  fails_at None failed = absurd (cc)
  fails_at (Some None) failed = absurd (cc)
  fails_at (Some (Some work)) failed = fails_stage work.job work.stage failed

  commits_stage : (whole : Job) (at : Stage) → is_faulted at ≡ false → ends_job (line_of_stage bundle emitted whole at) ≡ true → (line_of_stage bundle emitted whole at ≡ line.Commit 0) × (may_commit_in whole at ≡ true)
  commits_stage (job.Span piece) stage.Open failed ends = (by (nat_lt emitted bundle) ends, refl)
    where
      by : (b : Bool) → ends_job (if b then line.Claim 0 else line.Commit 0) ≡ true → (if b then line.Claim 0 else line.Commit 0) ≡ line.Commit 0
      by true ends = absurd (cc)
      by false ends = refl
  commits_stage (job.Batch node first panes attempts) stage.Open failed ends = absurd (cc)
  commits_stage (job.Key node cell key span inputs state timers attempts) stage.Open failed ends = absurd (cc)
  commits_stage whole stage.Over failed ends = (refl, refl)
  commits_stage whole (stage.Faulted at cause) failed ends = absurd (cc)

  commits_at : (work : Option (Option Working)) → has_failed work ≡ false → ends_job (drain_line bundle emitted work) ≡ true → (drain_line bundle emitted work ≡ line.Commit 0) × (may_commit work ≡ true)
  commits_at None failed ends = absurd (cc)
  commits_at (Some None) failed ends = absurd (cc)
  commits_at (Some (Some work)) failed ends = commits_stage work.job work.stage failed ends

  pub may_commit_now : has_failed (work_at s 0) ≡ false → may_commit (work_at s 0) ≡ true
  may_commit_now failed = (commits_at (work_at s 0) failed ends).1

  pub fail_line : (new : Stand) (spent : Bool) → has_failed (work_at s 0) ≡ true → may_fail (work_at s 0) ≡ true → HasFailed base.setting.known.told s new 0 spent → IsLastOfJob base emitted s new
  fail_line new spent failed may has =
      let one : Drained = record { steps = has.steps; works = []; text = told_text (answered.Failed 0 spent); stand = new; emitted = emitted } in
      record { one = one; is = drained_by base emitted s one (line.Fail 0) (fails_at (work_at s 0) failed) may has.done tt refl; stand = refl; none = refl; same = refl }

  pub commit_line : (new : Stand) (panes drops : ℕ) → has_failed (work_at s 0) ≡ false → HasCommitted base.setting.known.told s new 0 panes drops → IsLastOfJob base emitted s new
  commit_line new panes drops failed has =
      let at = commits_at (work_at s 0) failed ends in
      let one : Drained = record { steps = has.steps; works = []; text = told_text (answered.Committed 0 panes drops); stand = new; emitted = emitted } in
      record { one = one; is = drained_by base emitted s one (line.Commit 0) at.0 at.1 has.done tt refl; stand = refl; none = refl; same = refl }

-- that line, beside a kit that does nothing
last_line : (base : Base) (shelf : ObservedShelf) (store : ObservedStore) (emitted : ℕ) (s new : Stand) → IsLastOfJob base emitted s new → AreHonest base shelf store [] → AreLinesDrained base shelf store emitted emitted s new
last_line base shelf store emitted s new last none =
    subst (λ (x : Stand). AreLinesDrained base shelf store emitted emitted s x) last.stand
    (subst (λ (n : ℕ). AreLinesDrained base shelf store emitted n s last.one.stand) last.same
    (lines_one base shelf store emitted s last.one last.is (subst (AreHonest base shelf store) (sym last.none) none)))

-- ---- a whole job, and a whole drain

module _ (base : Base) {F S : Type 0} (strict : F → Bool) (faults : F → ℕ) (files : S → Option (List FileText)) (reads : S → ℕ) where
  pub none_same : (shelf : F) (store : S) → AreHonest base (observed_shelf strict faults shelf shelf) (observed_store files reads store store) []
  none_same shelf store = honest_none base (observed_shelf strict faults shelf shelf) (observed_store files reads store store) (omega arith) (omega arith)

  -- it was taken, worked, and committed or failed
  pub job_lines : (shelf later_shelf : F) (store later_store : S) (before : ℕ) (s mid next new : Stand) (what : Took) → may_take (work_at s 0) ≡ true → HasTaken base.setting.known.told s mid 0 what
      → has_job (work_at mid 0) ≡ true → (worked : IsJobWorked base (observed_shelf strict faults shelf later_shelf) (observed_store files reads store later_store) mid next) → IsLastOfJob base worked.emitted next new
      → AreLinesDrained base (observed_shelf strict faults shelf later_shelf) (observed_store files reads store later_store) before worked.emitted s new
  job_lines shelf later_shelf store later_store before s mid next new what may has got worked last =
      let taken = take_line base (observed_shelf strict faults shelf shelf) (observed_store files reads store store) before s mid what may has got (none_same shelf store) in
      let ended = last_line base (observed_shelf strict faults later_shelf later_shelf) (observed_store files reads later_store later_store) worked.emitted next new last (none_same later_shelf later_store) in
      lines_then base strict faults files reads shelf later_shelf later_shelf store later_store later_store before worked.emitted worked.emitted s next new
      (lines_then base strict faults files reads shelf shelf later_shelf store store later_store before 0 worked.emitted s mid next taken worked.lines)
      ended

  -- a take behind its lines got no job
  pub drained_all : (shelf mid_shelf last_shelf : F) (store mid_store last_store : S) (emitted : ℕ) (s mid new : Stand) (stopped : Bool) → s.book.options ≡ base.setting.options
      → AreLinesDrained base (observed_shelf strict faults shelf mid_shelf) (observed_store files reads store mid_store) 0 emitted s mid
      → AreHonest base (observed_shelf strict faults mid_shelf last_shelf) (observed_store files reads mid_store last_store) [] → IsLastTake base.setting.known.told mid new stopped
      → HasDrained base (observed_shelf strict faults shelf last_shelf) (observed_store files reads store last_store) s new stopped
  drained_all shelf mid_shelf last_shelf store mid_store last_store emitted s mid new stopped options lines none last = record {
    steps = steps_of lines.lines ++ last.taken.steps;
    works = works_of lines.lines;
    done = record {
      lines = lines.lines;
      mid = mid;
      emitted = emitted;
      drained = subst (λ (o : Options). AreDrained base.setting.known.told o.bundle 0 s lines.lines emitted mid) (sym options) lines.drained;
      answer = last.taken.answer;
      what = last.what;
      last_steps = last.taken.steps;
      last_text = told_text (answered.Taken 0 last.what);
      last = last.taken.done;
      stopped = stopped;
      ends = last.ends;
      made = refl;
      worked = refl;
      printed = refl;
    };
    honest = subst (AreHonest base (observed_shelf strict faults shelf last_shelf) (observed_store files reads store last_store)) (append-nil (works_of lines.lines))
        (honest_then base strict faults files reads shelf mid_shelf last_shelf store mid_store last_store (works_of lines.lines) [] lines.honest none);
  }
