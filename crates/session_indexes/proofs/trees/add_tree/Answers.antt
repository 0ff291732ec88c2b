use Rattle.std.proofs.Common.{ℕ, ◌∙◌, inl, refl, subst, sym, Some}
use Rattle.afl_base.proofs.CutLaws.{mends_now}
use Rattle.db_model.specs.declared.schemas.IndexKind.TheVariants.{MaxHeap}
use Rattle.session_indexes.specs.Made.{AsksIndex, index_for, keys_at}
use Rattle.session_indexes.proofs.Planted.{asks_tree, draft_ends, kept_again, place_left, put_part, rows_held, tree_part, tree_put}
use Rattle.session_indexes.proofs.PutParts.{may_keep, may_same}
use Rattle.session_indexes.proofs.trees.add_tree.Goals as goal

pub draft_tree-requires-clause-place : goal.draft_tree-requires-clause-place
draft_tree-requires-clause-place g c =
    place_left (g.V.Files.state c.args.files.now) (g.V.Files.state c.prepare_slot.new.files) c.args.cat c.args.tuples.now c.args.site.now c.requires.ready c.in-Ok.ensures.kept

pub draft_tree-requires-clause-holds : goal.draft_tree-requires-clause-holds
draft_tree-requires-clause-holds g c =
    rows_held (g.V.Files.state c.args.files.now) (g.V.Files.state c.prepare_slot.new.files) c.args.cat c.args.tuples.now c.args.site.now c.requires.ready c.in-Ok.ensures.kept

pub returns-in-Err-Space-draft_tree-clause-space : goal.returns-in-Err-Space-draft_tree-clause-space
returns-in-Err-Space-draft_tree-clause-space g c =
    kept_again (g.V.Files.state c.args.files.now) (g.V.Files.state c.prepare_slot.new.files) (g.V.Files.state c.draft_tree.new.files) c.args.cat c.in-Ok.ensures.kept
    (rw c.in-Err-Space-draft_tree.field-0-is at c.in-Err-Space-draft_tree.ensures.kept)

pub returns-in-Err-Space-draft_tree-clause-asked : goal.returns-in-Err-Space-draft_tree-clause-asked
returns-in-Err-Space-draft_tree-clause-asked g c = λ told.
    let s0 = g.V.Files.state c.args.files.now in
    let s2 = g.V.Files.state c.draft_tree.new.files in
    let asks = g.V.Files.asks c.draft_tree.new.files in
    let t = c.args.tuples.now in
    let site = c.args.site.now in
    let need = rw c.in-Err-Space-draft_tree.field-0-is at (c.in-Err-Space-draft_tree.ensures.need (c.in-Ok.ensures.kept.tells ∙ told)) in
    subst (λ (n : ℕ). AsksIndex asks s2 c.args.cat site.slot MaxHeap (keys_at s0 t site) n) (sym c.in-Err-Space-draft_tree.need-is)
    (asks_tree s0 (g.V.Files.state c.prepare_slot.new.files) c.args.cat t site c.requires.ready c.in-Ok.ensures.kept asks s2 c.in-Err-Space-draft_tree.need need)

pub draft_commit-requires-clause-last : goal.draft_commit-requires-clause-last
draft_commit-requires-clause-last g c =
    let s0 = g.V.Files.state c.args.files.now in
    let s1 = g.V.Files.state c.prepare_slot.new.files in
    let s2 = g.V.Files.state c.draft_tree.new.files in
    let s3 = g.V.Files.state c.put_site.new.files in
    let site = c.args.site.now in
    λ told some. draft_ends s0 s1 s2 c.args.cat c.args.tuples.now site c.requires.ready c.in-Ok.ensures.kept c.in-Ok-draft_tree.ensures.drafted s3 c.in-Ok-put_site.ensures.put told

pub returns-clause-put : goal.returns-clause-put
returns-clause-put g c =
    let s0 = g.V.Files.state c.args.files.now in
    let s1 = g.V.Files.state c.prepare_slot.new.files in
    let s2 = g.V.Files.state c.draft_tree.new.files in
    let s3 = g.V.Files.state c.put_site.new.files in
    let s4 = g.V.Files.state c.draft_commit.new.self in
    let site = c.args.site.now in
    tree_put s0 s1 s2 c.args.cat c.args.tuples.now site c.requires.ready c.in-Ok.ensures.kept c.in-Ok-draft_tree.ensures.drafted s3 c.in-Ok-put_site.ensures.put
    s4 c.in-Ok-draft_commit.file c.in-Ok-draft_commit.ensures.committed

pub returns-in-Err-Failed-clause-cut : goal.returns-in-Err-Failed-clause-cut
returns-in-Err-Failed-clause-cut g c = λ cuts told failed.
    let s0 = g.V.Files.state c.args.files.now in
    let site = c.args.site.now in
    let left = rw c.in-Err-Failed.field-0-is at (c.in-Err-Failed.ensures.cut cuts told) in
    mends_now s0 (left refl) (inl (may_same s0 c.args.cat site.slot (Some (index_for site MaxHeap)) c.requires.ready.catalog told))

pub returns-in-Err-Failed-draft_tree-clause-cut : goal.returns-in-Err-Failed-draft_tree-clause-cut
returns-in-Err-Failed-draft_tree-clause-cut g c = λ cuts told failed.
    let s0 = g.V.Files.state c.args.files.now in
    let s1 = g.V.Files.state c.prepare_slot.new.files in
    let site = c.args.site.now in
    let u = c.in-Ok.ensures.kept in
    let left = rw c.in-Err-Failed-draft_tree.field-0-is at (c.in-Err-Failed-draft_tree.ensures.cut cuts (u.tells ∙ told)) in
    mends_now s1 (left refl) (inl (may_keep s0 c.args.cat site.slot (Some (index_for site MaxHeap)) c.requires.ready.catalog told s1 u))

pub returns-in_default-clause-cut : goal.returns-in_default-clause-cut
returns-in_default-clause-cut g c = λ cuts told failed.
    let s0 = g.V.Files.state c.args.files.now in
    let s1 = g.V.Files.state c.prepare_slot.new.files in
    let s2 = g.V.Files.state c.draft_tree.new.files in
    let u = c.in-Ok.ensures.kept in
    let d = c.in-Ok-draft_tree.ensures.drafted in
    put_part s0 s1 s2 c.args.cat c.args.tuples.now c.args.site.now c.requires.ready u d told (c.in_default.ensures.cut cuts (d.tells ∙ u.tells ∙ told))

pub returns-in_default-draft_commit-clause-cut : goal.returns-in_default-draft_commit-clause-cut
returns-in_default-draft_commit-clause-cut g c = λ cuts told failed.
    let s0 = g.V.Files.state c.args.files.now in
    let s1 = g.V.Files.state c.prepare_slot.new.files in
    let s2 = g.V.Files.state c.draft_tree.new.files in
    let s3 = g.V.Files.state c.put_site.new.files in
    let u = c.in-Ok.ensures.kept in
    let d = c.in-Ok-draft_tree.ensures.drafted in
    let p = c.in-Ok-put_site.ensures.put in
    tree_part s0 s1 s2 c.args.cat c.args.tuples.now c.args.site.now c.requires.ready u d s3 p told (c.in_default-draft_commit.ensures.cut cuts (p.tells ∙ d.tells ∙ u.tells ∙ told))
