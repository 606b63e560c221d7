-- What `{}` prints of a refusal.
use Rattle.std.specs.Prelude.{ℕ, List, codes}
use Rattle.value_forms.specs.declared.refusal.FormRefusal.{FormRefusal}
use Rattle.value_forms.specs.declared.refusal.FormRefusal.TheVariants.{Shape, NoMemory}

abbrev pub form_message : FormRefusal → List ℕ
form_message Shape = codes "the value is not of the form"
form_message NoMemory = codes "no memory"
