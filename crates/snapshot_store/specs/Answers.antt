-- What a reader answers, against what the bytes mean.
use Rattle.std.specs.Prelude.{◌≡◌, Result, Ok, Err}
use Rattle.beam_coders.specs.declared.refusal.ReadRefusal.{ReadRefusal}
use Rattle.beam_coders.specs.declared.refusal.ReadRefusal.TheVariants as reading
use Rattle.value_forms.specs.declared.refusal.FormRefusal.{FormRefusal}
use Rattle.value_forms.specs.declared.refusal.FormRefusal.TheVariants as form
use Rattle.snapshot_refusal.specs.declared.refusal.SnapRefusal.{SnapRefusal}
use Rattle.snapshot_refusal.specs.declared.refusal.SnapRefusal.TheVariants as snap
use Rattle.snapshot_store.specs.declared.refusal.SnapReadRefusal.{SnapReadRefusal}
use Rattle.snapshot_store.specs.declared.refusal.SnapReadRefusal.TheVariants.{Bad, NoMemory}

-- where no value stands at the front
abbrev pub after_reading : ReadRefusal → SnapReadRefusal
after_reading (reading.Bad refusal) = Bad (snap.Coder refusal)
after_reading reading.NoMemory = NoMemory

-- where the value is of another form
abbrev pub after_form : FormRefusal → SnapReadRefusal
after_form form.Shape = Bad snap.Shape
after_form form.NoMemory = NoMemory

-- want of memory says nothing, and any other refusal is the bytes'
abbrev pub Fails : {X : Type 0} → SnapReadRefusal → Result X SnapRefusal → Type 0
Fails NoMemory meaning = Unit {0}
Fails (Bad refusal) meaning = meaning ≡ Err refusal

-- the answer is what the bytes mean, unless there was no memory
abbrev pub Gives : {X : Type 0} → Result X SnapReadRefusal → Result X SnapRefusal → Type 0
Gives (Ok x) meaning = meaning ≡ Ok x
Gives (Err e) meaning = Fails e meaning

-- the same where no memory is needed, of an answer seen by `view`
abbrev pub Reads : {X Y : Type 0} → (X → Y) → Result X SnapRefusal → Result Y SnapRefusal → Type 0
Reads view (Ok x) meaning = meaning ≡ Ok (view x)
Reads view (Err refusal) meaning = meaning ≡ Err refusal
