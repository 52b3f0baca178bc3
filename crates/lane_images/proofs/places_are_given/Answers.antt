use Rattle.lane_images.proofs.GivenPlaces.{places-are-given}
use Rattle.lane_images.proofs.places_are_given.Goals as goal

pub returns : goal.returns
returns c = places-are-given
