use Rattle.std.proofs.Common.{refl}
use Rattle.std.specs.Fmt.{digits}
use Rattle.mc_base.specs.Reading.{reading}
use Rattle.report_text.proofs.laws.verdict_examples_hold.Goals as goal

pub returns-clause-messages : goal.returns-clause-messages
unfolding digits reading
returns-clause-messages c = record { right = refl; other_bytes = refl; no_end = refl; no_last_call = refl; other_place = refl }

pub returns-clause-waits : goal.returns-clause-waits
unfolding digits reading
returns-clause-waits c = record { right = refl; too_early = refl; too_late = refl; not_begun = refl; begun_twice = refl; not_answered = refl }

pub returns-clause-rings : goal.returns-clause-rings
unfolding digits reading
returns-clause-rings c = record { right = refl; other_digit = refl; twice_the_first = refl; no_image = refl; odd_digits = refl; no_second_ring = refl }
