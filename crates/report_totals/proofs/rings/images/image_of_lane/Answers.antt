use Rattle.std.proofs.Common.{◌≡◌, ◌<◌, ℕ, List, ◌++◌, length, find, sym, ap₂, subst, ◌∙◌, arith}
use Rattle.std.specs.Prelude.{◌==◌}
use Rattle.std.specs.List.{AllByRecursion, flat_map}
use Rattle.std.proofs.lemmas.Result.{IfOk-weaker}
use Rattle.board_model.specs.RingImage.{Offer, start_image, driver_writes, device_writes}
use Rattle.ring_numbers.specs.RingLists.{image_left, offered, returned}
use Rattle.report_text.specs.LinkPass.{lanes_in}
use Rattle.report_text.specs.RingPass.{given_to}
use Rattle.report_totals.specs.SenderLanes.{numbers_told, sent_on, size_to}
use Rattle.report_totals.proofs.BuffersBelow.{all-places, all-written-some, start-some, used-below}
use Rattle.report_totals.proofs.rings.images.image_of_lane.Goals as goal

pub image_left-requires-clause-numbers : goal.image_left-requires-clause-numbers
image_left-requires-clause-numbers c =
    let r = c.requires.read in
    let used : c.used_by-used.result.now ≡ (numbers_told r.scenario r.texts r.texts c.args.sender c.args.receiver).used = c.used_by-used.ensures r.scenario r.texts r.texts r.reads.walked r.receiver in
    let places = given_to r.scenario r.texts c.args.sender c.args.receiver in
    let sent = flat_map (sent_on c.args.receiver) (lanes_in (find (λ t. t.line.domain == c.args.sender) r.texts)) in
    let some = r.some_buffers in
    let below = used-below (size_to r.scenario c.args.sender c.args.receiver) (omega (arith, some, r.sized)) places sent in
    all-places (λ (e : Offer). e.0 < c.args.size) c.used_by-used.result.now
    (subst (λ (xs : List Offer). AllByRecursion (λ e. e.0 < c.args.size) xs) (sym used) (subst (λ (n : ℕ). AllByRecursion (λ (e : Offer). e.0 < n) (numbers_told r.scenario r.texts r.texts c.args.sender c.args.receiver).used) r.sized below))

pub returns-clause-image : goal.returns-clause-image
returns-clause-image c =
    IfOk-weaker c.image_left.result _ _
    (λ v is s js reads.
    let r = c.requires.read in
    is
    ∙ ap₂ (λ (used : List Offer) (places : List ℕ). image_left c.args.size c.args.queue used places) (c.used_by-used.ensures s js js reads.walked r.receiver) (c.given_back-given.ensures s js reads.journals r.sender))
    c.image_left.ensures

pub returns-clause-some : goal.returns-clause-some
returns-clause-some c =
    IfOk-weaker c.image_left.result _ _
    (λ v is.
    let size = c.args.size in
    let queue = c.args.queue in
    let used = c.used_by-used.result.now in
    let given = c.given_back-given.result.now in
    subst (λ (bytes : List ℕ). 0 < length bytes) (sym is) (all-written-some (start_image size queue) (driver_writes size (offered size queue used given) ++ device_writes size (returned queue used given)) (start-some size queue)))
    c.image_left.ensures
