use Rattle.std.proofs.Common.{◌≡◌, ◌≤◌, ◌∙◌, ℕ, List, Result, Ok, Err, length, sym, ap, arith}
use Rattle.mc_base.specs.Limits.{buffer_size, link_limit}
use Rattle.shared_words.specs.Shown.{TableShown, size_of}
use Rattle.split_ring.specs.Ends.{End}
use Rattle.split_ring.specs.Finished.{FinishedRing, IsFinished}
use Rattle.ring_trace.specs.ImageFaults.{checked}
use Rattle.ring_trace.specs.SoundImages.{IsOfLink, info_of}
use Rattle.ring_trace.specs.declared.checking.ImageFault.{ImageFault}
use Rattle.ring_trace.specs.declared.checking.ImageInfo.{ImageInfo}
use Rattle.trace_tests.proofs.rings.info_of.Goals as goal

abbrev Told : Type 0
Told = Result ImageInfo (ℕ × ImageFault)

-- size, queue and the two indices
abbrev values : Told → ℕ × ℕ × ℕ × ℕ
values (Ok i) = (i.size, i.queue, i.avail, i.used)
values (Err e) = (0, 0, 0, 0)

-- the finished ring is one of a link
of-link : (ring : TableShown) (driver device : End) (closed : FinishedRing) → IsFinished ring driver device closed → (size_of ring.ring ≤ link_limit) × (ring.ring.width ≡ buffer_size) → IsOfLink closed
of-link ring driver device closed finished link = (let z = finished.size in let few = link.0 in omega (arith, z, few), finished.width ∙ link.1)

pub check_image-requires : goal.check_image-requires
check_image-requires c =
    let is = ap (length {A = ℕ}) (c.deref.ensures.value ∙ c.in-Ok.ensures) in
    let short = c.finished_images_are_sound.ensures.short c.args.ring c.args.driver c.args.device c.finish-closed.result c.finish-closed.ensures (of-link c.args.ring c.args.driver c.args.device c.finish-closed.result c.finish-closed.ensures c.requires.link) in
    omega (arith, is, short)

pub unreachable-requires : goal.unreachable-requires
unreachable-requires c =
    let finished = c.finish-closed.ensures in
    let sound = c.finished_images_are_sound.ensures.sound c.args.ring c.args.driver c.args.device c.finish-closed.result finished (of-link c.args.ring c.args.driver c.args.device c.finish-closed.result finished c.requires.link) (λ q. c.requires.empty (sym finished.queue ∙ q)) in
    c.in_default-check_image.not-Ok (info_of c.finish-closed.result c.args.driver c.args.device) (c.check_image.ensures ∙ (ap checked (c.deref.ensures.value ∙ c.in-Ok.ensures) ∙ sound))

pub returns-clause-ring : goal.returns-clause-ring
returns-clause-ring c =
    let finished = c.finish-closed.ensures in
    let sound = c.finished_images_are_sound.ensures.sound c.args.ring c.args.driver c.args.device c.finish-closed.result finished (of-link c.args.ring c.args.driver c.args.device c.finish-closed.result finished c.requires.link) (λ q. c.requires.empty (sym finished.queue ∙ q)) in
    let all = ap values (sym c.in-Ok-check_image.is ∙ (c.check_image.ensures ∙ (ap checked (c.deref.ensures.value ∙ c.in-Ok.ensures) ∙ sound))) in
    (ap (λ (x : ℕ × ℕ × ℕ × ℕ). x.0) all ∙ finished.size, ap (λ (x : ℕ × ℕ × ℕ × ℕ). x.1) all ∙ finished.queue)

pub returns-clause-avail : goal.returns-clause-avail
returns-clause-avail c =
    let finished = c.finish-closed.ensures in
    let sound = c.finished_images_are_sound.ensures.sound c.args.ring c.args.driver c.args.device c.finish-closed.result finished (of-link c.args.ring c.args.driver c.args.device c.finish-closed.result finished c.requires.link) (λ q. c.requires.empty (sym finished.queue ∙ q)) in
    let all = ap values (sym c.in-Ok-check_image.is ∙ (c.check_image.ensures ∙ (ap checked (c.deref.ensures.value ∙ c.in-Ok.ensures) ∙ sound))) in
    ap (λ (x : ℕ × ℕ × ℕ × ℕ). x.2) all

pub returns-clause-used : goal.returns-clause-used
returns-clause-used c =
    let finished = c.finish-closed.ensures in
    let sound = c.finished_images_are_sound.ensures.sound c.args.ring c.args.driver c.args.device c.finish-closed.result finished (of-link c.args.ring c.args.driver c.args.device c.finish-closed.result finished c.requires.link) (λ q. c.requires.empty (sym finished.queue ∙ q)) in
    let all = ap values (sym c.in-Ok-check_image.is ∙ (c.check_image.ensures ∙ (ap checked (c.deref.ensures.value ∙ c.in-Ok.ensures) ∙ sound))) in
    ap (λ (x : ℕ × ℕ × ℕ × ℕ). x.3) all
