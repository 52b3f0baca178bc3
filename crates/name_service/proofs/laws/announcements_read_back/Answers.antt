use Rattle.name_service.proofs.Announcements as announcements
use Rattle.name_service.proofs.laws.announcements_read_back.Goals as goal

pub returns : goal.returns
returns c = announcements.announcements_read_back
