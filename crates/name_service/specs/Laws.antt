-- What holds of name announcements and their spellings.
-- Source: struct rpmsg_ns_msg of Linux, as mc_base defines it.
use Rattle.std.specs.Prelude.{◌≡◌, ◌<◌, ◌≤◌, ◌^◌, ℕ, Bool, IsTrue, List, None, length}
use Rattle.mc_base.specs.Announcement.{IsNs, announcement, announcement_faults, is_name}
use Rattle.mc_base.specs.FaultRow.{first_fault}
use Rattle.mc_base.specs.Limits.{name_size}

-- the spelling of a lawful name and an address says these, and has no fault
abbrev pub AnnouncementsReadBack : Type 0
AnnouncementsReadBack =
    (name : List ℕ) (addr : ℕ) (create : Bool) → IsTrue (is_name name) → length name ≤ name_size → addr < 2 ^ 32
    → IsNs (announcement name addr create) name addr create
    × (first_fault (announcement_faults (announcement name addr create)) ≡ None)

-- a payload announces one thing at most
abbrev pub NoPayloadHasTwoAnnouncements : Type 0
NoPayloadHasTwoAnnouncements =
    (payload : List ℕ) (name other : List ℕ) (addr place : ℕ) (create again : Bool)
    → IsNs payload name addr create → IsNs payload other place again
    → (name ≡ other) × (addr ≡ place) × (create ≡ again)
