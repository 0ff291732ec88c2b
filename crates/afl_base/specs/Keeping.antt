-- What calls keep of an object that they are lent: records of what is the same for every call of a kind.
use Rattle.std.specs.Prelude.{◌≡◌, ℕ, ◌≤◌, List, length, Result, OnOk}
use Rattle.afl_base.specs.Causes.{HasCause}
use Rattle.afl_base.specs.FileErrors.{HasFileCause, OnSpace}
use Rattle.afl_base.specs.Files.{State}
use Rattle.afl_base.specs.declared.kind.FileError.{FileError}

-- a call that only reads, of files or of a flash: all that is seen of it stays, on a failure too, it
-- holds on to what it borrows, and on success no fault was counted
pub record OnlyReads {S A T E : Type 0} (seen : S → A) (borrows : S → List ℕ) (reads faults : S → ℕ) (old new : S) (result : Result T E) : Type 0 where
  pub same : seen new ≡ seen old
  pub lent : borrows new ≡ borrows old
  pub later : reads old ≤ reads new
  pub faultless : OnOk result (faults new ≡ faults old)
  pub cause : HasCause (faults old) (faults new) result

-- a call that may change files: the storage has as many bytes as before
pub record Changes {S T E : Type 0} (state : S → State) (borrows : S → List ℕ) (reads faults : S → ℕ) (old new : S) (result : Result T E) : Type 0 where
  pub store : length (state new).store ≡ length (state old).store
  pub lent : borrows new ≡ borrows old
  pub later : reads old ≤ reads new
  pub cause : HasCause (faults old) (faults new) result

-- the same of a call that may find no space: then no extent of this many pages is available
pub record ChangesOrLacks {S T : Type 0} (state : S → State) (borrows : S → List ℕ) (reads faults : S → ℕ) (lacking : S → ℕ → Type 0) (old new : S) (result : Result T FileError) : Type 0 where
  pub store : length (state new).store ≡ length (state old).store
  pub lent : borrows new ≡ borrows old
  pub later : reads old ≤ reads new
  pub lacks : OnSpace result (λ need. lacking new need)
  pub cause : HasFileCause (faults old) (faults new) result

-- a call that programs or erases a flash, and reads nothing
pub record Programs {S T E : Type 0} (image : S → List ℕ) (borrows : S → List ℕ) (reads faults : S → ℕ) (old new : S) (result : Result T E) : Type 0 where
  pub size : length (image new) ≡ length (image old)
  pub lent : borrows new ≡ borrows old
  pub unread : reads new ≡ reads old
  pub cause : HasCause (faults old) (faults new) result

-- a call that may change a flash, and may read it
pub record ChangesFlash {S T E : Type 0} (image : S → List ℕ) (borrows : S → List ℕ) (reads faults : S → ℕ) (old new : S) (result : Result T E) : Type 0 where
  pub size : length (image new) ≡ length (image old)
  pub lent : borrows new ≡ borrows old
  pub later : reads old ≤ reads new
  pub cause : HasCause (faults old) (faults new) result

-- the same of a call that may find no space
pub record ChangesFlashOrLacks {S T : Type 0} (image : S → List ℕ) (borrows : S → List ℕ) (reads faults : S → ℕ) (old new : S) (result : Result T FileError) : Type 0 where
  pub size : length (image new) ≡ length (image old)
  pub lent : borrows new ≡ borrows old
  pub later : reads old ≤ reads new
  pub cause : HasFileCause (faults old) (faults new) result

-- a call that writes to a sink: it stands before the same thing as before, and counts no fault on success
pub record Sends {S T E : Type 0} (borrows : S → List ℕ) (faults : S → ℕ) (old new : S) (result : Result T E) : Type 0 where
  pub lent : borrows new ≡ borrows old
  pub faultless : OnOk result (faults new ≡ faults old)
  pub cause : HasCause (faults old) (faults new) result
