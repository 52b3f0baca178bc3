-- What a frame says is what it carries.
-- Source: docs/FORMATS.md, with the relations of `mc_base` for frames, letters and announcements.
use Rattle.std.specs.Prelude.{◌≡◌, ◌≢◌, ◌<◌, ◌≤◌, ◌^◌, ℕ, Bool, IsTrue, List, length}
use Rattle.mc_base.specs.Limits.{name_service_address, name_size}
use Rattle.mc_base.specs.Frame.{IsFrame, made}
use Rattle.mc_base.specs.Letter.{FitsFrame, IsSaying, Saying, saying_text}
use Rattle.mc_base.specs.Announcement.{IsNs, announcement, is_name}
use Rattle.mc_base.specs.Reading.{announces, reading, says_so}

-- a frame to an endpoint says the letter, or the part of one, that it carries
abbrev pub LettersAreRead : Type 0
LettersAreRead =
    (frame payload : List ℕ) (src dst : ℕ) (s : Saying)
    → IsFrame frame src dst payload → dst ≢ name_service_address → IsSaying payload s
    → reading frame ≡ says_so src dst s

-- a frame to the name service announces what it carries
abbrev pub AnnouncementsAreRead : Type 0
AnnouncementsAreRead =
    (frame payload : List ℕ) (src : ℕ) (name : List ℕ) (address : ℕ) (create : Bool)
    → IsFrame frame src name_service_address payload → IsNs payload name address create
    → reading frame ≡ announces name address create

-- the frame that is made for a letter or a part says it
abbrev pub MadeLettersAreRead : Type 0
MadeLettersAreRead =
    (src dst : ℕ) (s : Saying) → src < 2 ^ 32 → dst < 2 ^ 32 → dst ≢ name_service_address → FitsFrame s
    → reading (made src dst (saying_text s)) ≡ says_so src dst s

-- the frame that is made for an announcement announces it
abbrev pub MadeAnnouncementsAreRead : Type 0
MadeAnnouncementsAreRead =
    (src : ℕ) (name : List ℕ) (address : ℕ) (create : Bool)
    → src < 2 ^ 32 → IsTrue (is_name name) → length name ≤ name_size → address < 2 ^ 32
    → reading (made src name_service_address (announcement name address create)) ≡ announces name address create
