-- The forms of the marks of commits.
use Rattle.std.specs.Prelude.{ℤ, List}
use Rattle.beam_values.specs.declared.marks.CommitMarks.{CommitMarks}
use Rattle.beam_values.specs.declared.marks.StageMarks.{StageMarks}
use Rattle.value_forms.specs.Forms.{Form, list_form}
use Rattle.value_forms.specs.Numbers.{mark_form}
use Rattle.value_forms.specs.Structs.{no_more, ◌&◌, struct_form}

abbrev pub stage_fields : StageMarks → ℤ × (ℤ × Unit {0})
stage_fields s = (s.mark_in, (s.mark_out, tt))

abbrev pub stage_of : ℤ × (ℤ × Unit {0}) → StageMarks
stage_of x = record { mark_in = x.0; mark_out = x.1.0 }

abbrev pub stage_form : Form StageMarks
stage_form = struct_form (mark_form & mark_form & no_more) stage_fields stage_of

abbrev pub commit_fields : CommitMarks → List StageMarks × Unit {0}
commit_fields c = (c.marks, tt)

abbrev pub commit_of : List StageMarks × Unit {0} → CommitMarks
commit_of x = record { marks = x.0 }

-- The commit of a plan with one node, whose marks are 3 and 2, is `Seq[Seq[Seq[Int(3), Int(2)]]]`.
abbrev pub commit_form : Form CommitMarks
commit_form = struct_form (list_form stage_form & no_more) commit_fields commit_of
