-- How the views of the halves part at the beginning, and are one again at the end.
-- Source: docs/ARCHITECTURE.md, the table of the kinds of step.
use Rattle.shared_words.specs.declared.view.Role.TheVariants.{Driver, Device}
use Rattle.shared_words.specs.declared.view.View.{View}
use Rattle.shared_words.specs.declared.view.View.TheVariants.{Whole, Live, Spent}
use Rattle.shared_words.specs.HalfHolds.{half_in}

abbrev pub driver_part : View → View
driver_part (Whole driver device) = Live Driver driver
driver_part view = view

abbrev pub device_part : View → View
device_part (Whole driver device) = Live Device device
device_part view = view

-- the device's view passes to another seat
abbrev pub left_behind : View → View
left_behind view = Spent

abbrev pub passed : View → View
passed view = view

-- the views of both halves
abbrev pub united : View → View → View
united driver device = Whole (half_in driver) (half_in device)
