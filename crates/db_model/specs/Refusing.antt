-- How refusals are tried one after the other: the first that comes decides.
use Rattle.std.specs.Prelude.{Bool, true, false, Option, Some, None, Result, Ok, Err, ⊤}
use Rattle.db_model.specs.declared.refusals.Refusal.{Refusal}

abbrev pub ◌>>=◌ : {A B : Type 0} → Result A Refusal → (A → Result B Refusal) → Result B Refusal
◌>>=◌ (Ok x) rest = rest x
◌>>=◌ (Err refusal) rest = Err refusal

abbrev pub ◌>>◌ : {A B : Type 0} → Result A Refusal → Result B Refusal → Result B Refusal
◌>>◌ (Ok x) rest = rest
◌>>◌ (Err refusal) rest = Err refusal

abbrev pub refuse_if : Bool → Refusal → Result ⊤ Refusal
refuse_if true refusal = Err refusal
refuse_if false refusal = Ok tt

-- refused where something is found, which the refusal shows
abbrev pub refuse_found : {A : Type 0} → Option A → (A → Refusal) → Result ⊤ Refusal
refuse_found None refusal = Ok tt
refuse_found (Some x) refusal = Err (refusal x)

abbrev pub found_or : {A : Type 0} → Option A → Refusal → Result A Refusal
found_or None refusal = Err refusal
found_or (Some x) refusal = Ok x
