use Rattle.name_service.proofs.FramesRead as frames
use Rattle.name_service.proofs.laws.frames_say_what_they_carry.Goals as goal

pub returns-clause-letters : goal.returns-clause-letters
returns-clause-letters c = frames.letters_are_read

pub returns-clause-announcements : goal.returns-clause-announcements
returns-clause-announcements c = frames.announcements_are_read

pub returns-clause-made_letters : goal.returns-clause-made_letters
returns-clause-made_letters c = frames.made_letters_are_read

pub returns-clause-made_announcements : goal.returns-clause-made_announcements
returns-clause-made_announcements c = frames.made_announcements_are_read
