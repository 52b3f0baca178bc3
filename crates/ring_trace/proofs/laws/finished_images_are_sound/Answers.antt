use Rattle.ring_trace.proofs.SoundImage.{finished_images, short_images}
use Rattle.ring_trace.proofs.laws.finished_images_are_sound.Goals as goal

pub returns-clause-sound : goal.returns-clause-sound
returns-clause-sound c = finished_images

pub returns-clause-short : goal.returns-clause-short
returns-clause-short c = short_images
