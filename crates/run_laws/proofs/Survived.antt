-- However a run ends over a sound image, what it leaves mends to the database after the entries whose replies came out, or to one up to the next.
use Rattle.std.proofs.Common.{◌≡◌, ◌≢◌, ◌⊎◌, inl, inr, ⊎_elim, ℕ, suc, ◌*◌, true, List, [], ◌∷◌, ◌++◌, length, Option, Some, None, refl, ap, sym, subst, ◌∙◌, arith, append_assoc}
use Rattle.std.specs.Prelude.{⊤, Result, Ok, Err, IsTrue}
use Rattle.std.specs.Io.KnownBytes.{append_known, prepend_known}
use Rattle.std.proofs.lemmas.List.{append-nil, append_cancel_left}
use Rattle.db_model.specs.declared.commands.Command.{Command}
use Rattle.db_model.specs.declared.refusals.Refusal.{Refusal}
use Rattle.db_model.specs.Database.{Database, bare}
use Rattle.db_model.specs.Reading.{IsReader}
use Rattle.run_input.specs.declared.ending.Ending.TheVariants.{Space, Flash, Sink}
use Rattle.run_input.specs.declared.ending.InputEnding.{InputEnding}
use Rattle.run_input.specs.declared.ending.InputEnding.TheVariants.{Input, Long, Early}
use Rattle.run_model.specs.Line.{Line}
use Rattle.run_model.specs.Runs.{AreEntries, CarriedOut, FoundNoSpace, InputBrokenOff, InputCutOff, InputEnded, InputFoundNoSpace, InputTooLong, InputUnsaid, Machine, Refuses, RefusalUnsaid, ReplyUnsaid, SpaceUnsaid, StandsAfter, World, machine_from}
use Rattle.run_model.specs.Talk.{Talk, talk_output}
use Rattle.image_model.specs.Images.{IsFirstBroken, IsSound, base}
use Rattle.image_model.specs.Mending.{ImageMendsTo}
use Rattle.image_model.proofs.OneBase.{sound_mends}
use Rattle.antelope_run.specs.Endings.{BrokenOff, InputLeaves, LeavesBehind, LeavesImage}
use Rattle.antelope_run.specs.Promise.{ComesTo, EndsBrokenOff, KeepsPromise, LeftBy, status_by, status_of}
use Rattle.run_model.specs.Moments.{Moment}
use Rattle.antelope_run.specs.declared.came.Came.{Came}
use Rattle.antelope_run.specs.declared.came.Came.TheVariants.{Opened, Refused, Unsaid, Failed}
use Rattle.run_words.specs.declared.words.Form.{Form}
use Rattle.run_words.specs.declared.words.Form.TheVariants.{Run, Serve}
use Rattle.run_repair.specs.Mends.{StaysOrMends}
use Rattle.run_repair.specs.Outcomes.{AreInterrupted, IsPutRightTimes, RepairsTo}
use Rattle.run_repair.specs.Repairs.{Repairs}
use Rattle.stored.specs.Mended.{mended_base}
use Rattle.run_laws.specs.Survival.{InputRestoredAfter, InputRestores, InputSurvives, IsReplyBegun, IsUpToNext, Next, Survives}

nothing_more : (xs : List ℕ) (o : Option (List ℕ)) → append_known o (xs ++ []) ≡ append_known o xs
nothing_more xs o = ap (append_known o) (append-nil xs)

as_left : (o : Option (List ℕ)) → o ≡ prepend_known [] o
as_left None = refl
as_left (Some xs) = refl

as_held : (o : Option (List ℕ)) → o ≡ append_known o []
as_held None = refl
as_held (Some xs) = ap (λ ys. Some ys) (sym (append-nil xs))

module _ {E : Type 0} (m : Machine E) (sectors : ℕ) where
  -- a sound image mends to what it stands for
  mends_before : (entries front : List E) (image : List ℕ) → length image ≡ 4096 * sectors → StandsAfter m front image → ImageMendsTo image (IsUpToNext m entries front)
  mends_before entries front image size s =
      let n = sound_mends image sectors size s.sound in
      record { files = n.files; mends_to = n.mends_to; cut = n.cut; is = inl (n.is ∙ s.base_is) }

  mends_after : (entries front : List E) (next : Next entries front) (image : List ℕ) → length image ≡ 4096 * sectors → StandsAfter m (front ++ next.entry ∷ []) image
      → ImageMendsTo image (IsUpToNext m entries front)
  mends_after entries front next image size s =
      let n = sound_mends image sectors size s.sound in
      record { files = n.files; mends_to = n.mends_to; cut = n.cut; is = inr (next, inl (n.is ∙ s.base_is)) }

  -- all entries were carried out
  carried : (entries : List E) (old new : World) → length new.image ≡ 4096 * sectors → CarriedOut m entries old new → Survives m entries old new
  carried entries old new size c = record {
    front = entries;
    part = [];
    written = c.written ∙ sym (nothing_more (m.written entries) old.held);
    begun = inl refl;
    mends = mends_before entries entries new.image size c.stands;
  }

  spaceless : (entries : List E) (old new : World) → length new.image ≡ 4096 * sectors → FoundNoSpace m entries old new → Survives m entries old new
  spaceless entries old new size f =
      let s = f.stops in
      record {
        front = f.front;
        part = m.refused s.entry f.n;
        written = f.written;
        begun = inr (record { entry = s.entry; rest = s.rest; split = s.split }, [], inr (f.n, sym (append-nil (m.refused s.entry f.n))));
        mends = mends_before entries f.front new.image size s.stands;
      }

  reply_unsaid : (entries : List E) (old new : World) → length new.image ≡ 4096 * sectors → ReplyUnsaid m entries old new → Survives m entries old new
  reply_unsaid entries old new size u =
      let next : Next entries u.front = record { entry = u.entry; rest = u.rest; split = u.split } in
      record {
        front = u.front;
        part = u.written.part;
        written = u.written.held;
        begun = inr (next, u.written.rest, inl u.written.split);
        mends = mends_after entries u.front next new.image size u.stands;
      }

  space_unsaid : (entries : List E) (old new : World) → length new.image ≡ 4096 * sectors → SpaceUnsaid m m.written entries old new → Survives m entries old new
  space_unsaid entries old new size u =
      let s = u.stops in
      record {
        front = u.front;
        part = u.written.part;
        written = u.written.held;
        begun = inr (record { entry = s.entry; rest = s.rest; split = s.split }, u.written.rest, inr (u.n, same_tail (m.written u.front) (m.refused s.entry u.n) (u.written.part ++ u.written.rest) (u.written.split ∙ append_assoc (m.written u.front) u.written.part u.written.rest)));
        mends = mends_before entries u.front new.image size s.stands;
      }
    where
      same_tail : (xs ys zs : List ℕ) → xs ++ ys ≡ xs ++ zs → ys ≡ zs
      same_tail xs ys zs e = append_cancel_left xs ys zs e

module _ {E : Type 0} (line : Line E) (talk : Talk E) (sectors : ℕ) where
  -- nothing came, and the image is as it was
  untouched : (old new : World) → IsSound old.image → length new.image ≡ 4096 * sectors → LeavesImage old new → new.held ≡ old.held → InputSurvives line talk old new
  unfolding base
  untouched old new sound size l unsaid =
      let s : IsSound new.image = subst IsSound (sym l.same) sound in
      record {
        bytes = [];
        more = [];
        came = sym l.unread ∙ as_left new.left;
        entries = line.whole [];
        are = inl refl;
        survives = record {
          front = [];
          part = [];
          written = unsaid ∙ as_held old.held;
          begun = inl refl;
          mends = mends_before (machine_from talk (base old.image)) sectors (line.whole []) [] new.image size (record { sound = s; base_is = ap base l.same });
        };
      }

  ended : (old new : World) (done : Result ⊤ InputEnding) → length new.image ≡ 4096 * sectors → InputLeaves line talk old new done → (done ≡ Err (Early Flash) → ⊥) → InputSurvives line talk old new
  ended old new (Ok x) size e other = record {
    bytes = e.bytes;
    more = [];
    came = e.came.left ∙ ap (λ bs. prepend_known bs new.left) (sym (append-nil e.bytes));
    entries = line.all e.bytes;
    are = inr (refl, e.at_end);
    survives = carried (machine_from talk (base old.image)) sectors (line.all e.bytes) old new size e.carried;
  }
  ended old new (Err Input) size e other = record {
    bytes = e.bytes;
    more = [];
    came = e.came.left ∙ ap (λ bs. prepend_known bs new.left) (sym (append-nil e.bytes));
    entries = line.whole e.bytes;
    are = inl refl;
    survives = carried (machine_from talk (base old.image)) sectors (line.whole e.bytes) old new size e.carried;
  }
  ended old new (Err Long) size e other = record {
    bytes = e.bytes;
    more = e.more;
    came = e.left;
    entries = line.whole e.bytes;
    are = inl refl;
    survives = carried (machine_from talk (base old.image)) sectors (line.whole e.bytes) old new size e.carried;
  }
  ended old new (Err (Early Space)) size e other = record {
    bytes = e.bytes;
    more = [];
    came = e.came.left ∙ ap (λ bs. prepend_known bs new.left) (sym (append-nil e.bytes));
    entries = e.entries;
    are = e.are;
    survives = spaceless (machine_from talk (base old.image)) sectors e.entries old new size e.found;
  }
  ended old new (Err (Early Flash)) size e other = absurd (other refl)
  ended old new (Err (Early Sink)) size e other = record {
    bytes = e.bytes;
    more = [];
    came = e.came.left ∙ ap (λ bs. prepend_known bs new.left) (sym (append-nil e.bytes));
    entries = e.entries;
    are = e.are;
    survives = ⊎_elim (reply_unsaid (machine_from talk (base old.image)) sectors e.entries old new size) (space_unsaid (machine_from talk (base old.image)) sectors e.entries old new size) e.stopped;
  }

  broken_off : (old new : World) → InputBrokenOff line talk old new → InputSurvives line talk old new
  broken_off old new b =
      let k = b.breaks in
      let next : Next b.entries b.front = record { entry = k.entry; rest = k.rest; split = k.split } in
      record {
        bytes = b.bytes;
        more = [];
        came = b.came.left ∙ ap (λ bs. prepend_known bs new.left) (sym (append-nil b.bytes));
        entries = b.entries;
        are = b.are;
        survives = record {
          front = b.front;
          part = b.written.part;
          written = b.written.held;
          begun = inr (next, b.written.rest, inl b.written.split);
          mends = record { files = k.mends.files; mends_to = k.mends.mends_to; cut = k.mends.cut; is = inr (next, inr (k.command, k.asks, k.mends.is)) };
        };
      }

  -- so it is by whatever a run came to
  pub survived : ((image : List ℕ) (rule place : ℕ) → IsSound image → IsFirstBroken image rule place → ⊥) → (form : Form) (status : ℕ) (old new : Moment) → IsSound old.world.image
      → length new.world.image ≡ 4096 * sectors → ((done : Result ⊤ InputEnding) → LeavesBehind form old.world new.world done → InputLeaves line talk old.world new.world done)
      → (BrokenOff form old.world new.world → InputBrokenOff line talk old.world new.world) → KeepsPromise form true status old new → InputSurvives line talk old.world new.world
  survived unbroken form status old new sound size leaves breaks run = by_came run.told.came run.told.is run.told.left
    where
      at_cut : status ≡ 4 → InputSurvives line talk old.world new.world
      at_cut is = ⊎_elim
          (λ (l : LeavesImage old.world new.world × (new.world.held ≡ old.world.held)). untouched old.world new.world sound size l.0 l.1)
          (λ (b : IsSound old.world.image × BrokenOff form old.world new.world). broken_off old.world new.world (breaks b.1))
          (run.broken_off refl is)

      by_done : (done : Result ⊤ InputEnding) → status ≡ status_of done → LeavesBehind form old.world new.world done → InputSurvives line talk old.world new.world
      by_done (Ok x) is l = ended old.world new.world (Ok x) size (leaves (Ok x) l) (λ e. cc)
      by_done (Err Input) is l = ended old.world new.world (Err Input) size (leaves (Err Input) l) (λ e. cc)
      by_done (Err Long) is l = ended old.world new.world (Err Long) size (leaves (Err Long) l) (λ e. cc)
      by_done (Err (Early Space)) is l = ended old.world new.world (Err (Early Space)) size (leaves (Err (Early Space)) l) (λ e. cc)
      by_done (Err (Early Flash)) is l = at_cut is
      by_done (Err (Early Sink)) is l = ended old.world new.world (Err (Early Sink)) size (leaves (Err (Early Sink)) l) (λ e. cc)

      by_came : (came : Came) → status ≡ status_by came → ComesTo form old.world new.world came → InputSurvives line talk old.world new.world
      by_came (Opened done) is l = by_done done is l.1
      by_came Refused is l = absurd (unbroken old.world.image l.rule l.place sound l.first)
      by_came Unsaid is l = absurd (unbroken old.world.image l.0.rule l.0.place sound l.0.first)
      by_came Failed is l = untouched old.world new.world sound size l.0 l.1

  -- and a repair restores it
  pub restored : (old new : World)
      → ((status : ℕ) (before after : List ℕ) (held now : Option (List ℕ)) (db : Database) (n : ℕ) → length before ≡ 4096 * n → ImageMendsTo before (λ mended. mended ≡ db) → Repairs status before after held now
      → (status ≡ 4 → StaysOrMends before after) → status ≢ 5 → RepairsTo status db before after)
      → InputSurvives line talk old new → length new.image ≡ 4096 * sectors → (repair : ℕ) (image : List ℕ) (held now : Option (List ℕ)) → Repairs repair new.image image held now
      → (repair ≡ 4 → StaysOrMends new.image image) → repair ≢ 5 → InputRestores line talk old new repair image
  restored old new law s size repair image held now repairs cut unsaid =
      let m = s.survives.mends in
      record {
        survives = s;
        database = mended_base m.files;
        up_to = m.is;
        repairs = law repair new.image image held now (mended_base m.files) sectors size (record { files = m.files; mends_to = m.mends_to; cut = m.cut; is = refl }) repairs cut unsaid;
      }

  -- and so does one behind others that were interrupted
  pub restored_after : (old new : World)
      → ((repairs : ℕ) (before left after : List ℕ) (held now : Option (List ℕ)) (db : Database) (n : ℕ) → length before ≡ 4096 * n → ImageMendsTo before (λ mended. mended ≡ db) → AreInterrupted repairs before left
      → Repairs 0 left after held now → IsSound after × IsPutRightTimes (suc repairs) db (base after))
      → InputSurvives line talk old new → length new.image ≡ 4096 * sectors → (repairs : ℕ) (left image : List ℕ) (held now : Option (List ℕ)) → AreInterrupted repairs new.image left → Repairs 0 left image held now
      → InputRestoredAfter line talk old new (suc repairs) image
  restored_after old new law s size repairs left image held now before last =
      let m = s.survives.mends in
      let ended = law repairs new.image left image held now (mended_base m.files) sectors size (record { files = m.files; mends_to = m.mends_to; cut = m.cut; is = refl }) before last in
      record {
        survives = s;
        database = mended_base m.files;
        up_to = m.is;
        sound = ended.0;
        base_is = ended.1;
      }
