-- What the words ask for, and the ends of the command.
use Rattle.std.proofs.Common.{◌≡◌, ℕ, ◌<◌, ◌≤◌, List, [], ◌∷◌, length, map, get_or, Some, Ok, subst, sym, ap, arith}
use Rattle.std.specs.String.{string_bytes}
use Rattle.std.specs.declared.alloc.Global.{Global}
use Rattle.std.specs.declared.string.String.{String}
use Rattle.beam_values.specs.declared.plan.Plan.{Plan}
use Rattle.beam_ports.specs.Observed.{ObservedSink, ObservedStore, WhereTold}
use Rattle.command_ends.specs.PlanFiles.{AreNamesOf, IsMeaningOf}
use Rattle.command_ends.specs.Writing.{IsTextEnd}
use Rattle.plan_drawing.specs.Drawing.{drawing_of}
use Rattle.command_ends.specs.declared.status.Status.{Status}
use Rattle.command_ends.specs.declared.status.Status.TheVariants as status
use Rattle.beam_draw.specs.Ends.{IsDrawEnd, IsTextWritten, attempts, file_asked}

-- two words ask for the file that the second names
pub two_words : (words : List (String Global)) (file : String Global) → 2 ≤ length words → length words < 3 → file ≡ get_or words 1 file
    → file_asked (map string_bytes words) ≡ Some (string_bytes file)
two_words [] file some few is = let no : ⊥ = omega arith in absurd no
two_words (program ∷ []) file some few is = let no : ⊥ = omega arith in absurd no
two_words (program ∷ named ∷ []) file some few is = ap (λ (word : String Global). Some (string_bytes word)) (sym is)
two_words (program ∷ named ∷ other ∷ others) file some few is = let no : ⊥ = omega arith in absurd no

written_so : (out : ObservedSink) (text : List ℕ) (s : Status) → IsTextEnd out attempts text s → IsTextWritten out text s
written_so out text status.Ok end = end
written_so out text status.SinkFault end = end
written_so out text status.NoMemory end = absurd end
written_so out text status.Help end = absurd end
written_so out text status.Usage end = absurd end
written_so out text (status.BadPlan refusal) end = absurd end
written_so out text (status.NoSource name) end = absurd end
written_so out text (status.SourceFault kit) end = absurd end
written_so out text (status.WorkFault note) end = absurd end
written_so out text (status.FileChanged name first other) end = absurd end
written_so out text (status.BadSchedule refusal) end = absurd end
written_so out text (status.NotLifted refusal) end = absurd end

-- a text that is the drawing, and that was written
pub text_written : (out : ObservedSink) (text drawing : List ℕ) (s : Status) → text ≡ drawing → IsTextEnd out attempts text s → IsTextWritten out drawing s
text_written out text drawing s same end = subst (λ (t : List ℕ). IsTextWritten out t s) same (written_so out text s end)

-- a plan that was read, and whose drawing was written
pub drawn_end : (store : ObservedStore) (out : ObservedSink) (file : List ℕ) (names : List (List ℕ)) (plan : Plan) (s : Status)
    → WhereTold store.files (λ told. IsMeaningOf told file (Ok plan)) → WhereTold store.files (λ told. AreNamesOf told file names)
    → IsTextWritten out (drawing_of names plan) s → IsDrawEnd (Some file) store out s
drawn_end store out file names plan status.Ok means named w = (names, plan, (λ told is. (means told is, named told is)), w)
drawn_end store out file names plan status.SinkFault means named w = (names, plan, (λ told is. (means told is, named told is)), w)
drawn_end store out file names plan status.NoMemory means named w = (w, tt)
drawn_end store out file names plan status.Help means named w = absurd w
drawn_end store out file names plan status.Usage means named w = absurd w
drawn_end store out file names plan (status.BadPlan refusal) means named w = absurd w
drawn_end store out file names plan (status.NoSource name) means named w = absurd w
drawn_end store out file names plan (status.SourceFault kit) means named w = absurd w
drawn_end store out file names plan (status.WorkFault note) means named w = absurd w
drawn_end store out file names plan (status.FileChanged name first other) means named w = absurd w
drawn_end store out file names plan (status.BadSchedule refusal) means named w = absurd w
drawn_end store out file names plan (status.NotLifted refusal) means named w = absurd w
