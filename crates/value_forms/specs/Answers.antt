-- What a reader answers, against what a form gives.
use Rattle.std.specs.Prelude.{◌≡◌, Option, Some, None, Result, Ok, Err}
use Rattle.value_forms.specs.declared.refusal.FormRefusal.{FormRefusal}
use Rattle.value_forms.specs.declared.refusal.FormRefusal.TheVariants as refusals

-- want of memory says nothing, and `Shape` that the form gives none
abbrev pub Fails : {Y : Type 0} → FormRefusal → Option Y → Type 0
Fails refusals.NoMemory read = Unit {0}
Fails refusals.Shape read = read ≡ None

-- the answer, seen by `view`, is what the form gives, unless there was no memory
abbrev pub Reads : {X Y : Type 0} → (X → Y) → Result X FormRefusal → Option Y → Type 0
Reads view (Ok x) read = read ≡ Some (view x)
Reads view (Err e) read = Fails e read
