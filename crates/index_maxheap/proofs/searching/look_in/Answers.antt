use Rattle.std.proofs.Common.{rules, ◌≡◌, ◌∙◌, sym}
use Rattle.afl_base.specs.Files.{bytes_at}
use Rattle.index_tree.specs.Pairs.{goes, reaching}
use Rattle.index_tree.specs.Trees.{numbered}
use Rattle.index_maxheap.proofs.Onward.{found_small, found_step, held, none_step, onward_step}
use Rattle.index_maxheap.proofs.searching.look_in.Goals as goal

pub returns-in-None-clause-steps : goal.returns-in-None-clause-steps
returns-in-None-clause-steps g c = λ told keys tree at.
    let bytes = bytes_at (g.V.Files.state c.args.files.now).files c.args.index in
    let rest = reaching (goes c.args.key.now) at.0 (numbered 0 keys) in
    let holds = held bytes c.read_bucket.new.into keys c.args.key.now c.args.from c.args.place.bucket c.args.place.pair at.0 tree at.2 (c.in_ok-read_bucket.ensures.bytes told) in
    let scans = rw c.in-Found.is at (c.scan.ensures.scans rest holds at.2.good.within) in
    found_small bytes keys c.args.key.now c.args.from c.args.place c.in-Found.pair c.in-Found.slot tree at scans (search rules)

pub returns-in-Some-clause-steps : goal.returns-in-Some-clause-steps
returns-in-Some-clause-steps g c = λ told keys tree at.
    let bytes = bytes_at (g.V.Files.state c.args.files.now).files c.args.index in
    let rest = reaching (goes c.args.key.now) at.0 (numbered 0 keys) in
    let holds = held bytes c.read_bucket.new.into keys c.args.key.now c.args.from c.args.place.bucket c.args.place.pair at.0 tree at.2 (c.in_ok-read_bucket.ensures.bytes told) in
    let scans = rw c.in-Found.is at (c.scan.ensures.scans rest holds at.2.good.within) in
    let short = rw c.in-Found.is at c.scan.ensures.short in
    let slot : c.in-Found.slot ≡ c.in-Some.slot = search rules in
    rw slot at (found_step bytes keys c.args.key.now c.args.from c.args.place c.in-Found.pair c.in-Found.slot short.1 at scans)

pub returns-in-End-clause-steps : goal.returns-in-End-clause-steps
returns-in-End-clause-steps g c = λ told keys tree at.
    let bytes = bytes_at (g.V.Files.state c.args.files.now).files c.args.index in
    let rest = reaching (goes c.args.key.now) at.0 (numbered 0 keys) in
    let holds = held bytes c.read_bucket.new.into keys c.args.key.now c.args.from c.args.place.bucket c.args.place.pair at.0 tree at.2 (c.in_ok-read_bucket.ensures.bytes told) in
    sym at.2.rest ∙ rw c.in-End.is at (c.scan.ensures.scans rest holds at.2.good.within)

pub returns-then-number-eq0-clause-steps : goal.returns-then-number-eq0-clause-steps
returns-then-number-eq0-clause-steps g c = λ told keys tree at.
    let bytes = bytes_at (g.V.Files.state c.args.files.now).files c.args.index in
    let rest = reaching (goes c.args.key.now) at.0 (numbered 0 keys) in
    let holds = held bytes c.read_bucket.new.into keys c.args.key.now c.args.from c.args.place.bucket c.args.place.pair at.0 tree at.2 (c.in_ok-read_bucket.ensures.bytes told) in
    let scans = rw c.in-Passed.is at (c.scan.ensures.scans rest holds at.2.good.within) in
    let number = (rw c.in_ok-read_bucket.ensures.frame.same at c.in_ok-number-in-Passed.ensures.number) told at.0 at.1 at.2.there in
    none_step bytes keys c.args.key.now c.args.from c.args.place tree at scans (sym number ∙ c.if-number-eq0.true)

pub returns-else-number-eq0-clause-steps : goal.returns-else-number-eq0-clause-steps
returns-else-number-eq0-clause-steps g c = λ told keys tree at.
    let bytes = bytes_at (g.V.Files.state c.args.files.now).files c.args.index in
    let rest = reaching (goes c.args.key.now) at.0 (numbered 0 keys) in
    let holds = held bytes c.read_bucket.new.into keys c.args.key.now c.args.from c.args.place.bucket c.args.place.pair at.0 tree at.2 (c.in_ok-read_bucket.ensures.bytes told) in
    let scans = rw c.in-Passed.is at (c.scan.ensures.scans rest holds at.2.good.within) in
    let number = (rw c.in_ok-read_bucket.ensures.frame.same at c.in_ok-number-in-Passed.ensures.number) told at.0 at.1 at.2.there in
    onward_step bytes keys c.args.key.now c.args.from c.args.place c.in_ok-number-in-Passed.number at scans number c.if-number-eq0.false
