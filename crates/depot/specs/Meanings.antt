-- What the providers of a stack mean, each by what is below it; a check that takes them for the providers' own shows that they are. Assumes nothing.
use Rattle.std.specs.Prelude.{◌≡◌, vec_len, MatchBool}
use Rattle.zone.specs.Intervals.{era}
use Rattle.provider.specs.declared.providers.Provider.{Ghosts}
use Rattle.provider.specs.declared.publishing.Publishing.{Ghosts as PublishingGhosts}
use Rattle.provider.specs.Fetching.{passes}
use Rattle.provider.specs.Whole.{meaning}
use Rattle.root.specs.declared.roots.Root.{Root}
use Rattle.root.specs.Logs.{pages}
use Rattle.root.specs.Order.{InOrder}
use Rattle.root.specs.Roots.{AfterPublish, has_room, log_of}
use Rattle.truncation.specs.declared.truncations.Truncation.{Truncation}
use Rattle.truncation.specs.Truncating.{cut_page, Over}
use Rattle.line.specs.declared.lines.Line.{Line}
use Rattle.line.specs.Fates.{next_fate}
use Rattle.line.specs.Sending.{Sent, turn_by}
use Rattle.kept.specs.Keeping.{kept}
use Rattle.relay.specs.declared.relays.Relay.{Relay}
use Rattle.relay.specs.Relaying.{AllFrom, Relayed, relay_turn}

-- the root
abbrev pub of_root : Ghosts Root
of_root = record { span = λ s. era; count = λ s. vec_len s.entries; pages = λ s. pages (log_of s); turn = λ s n i. vec_len s.entries; in_order = λ s. InOrder (log_of s); after_fetch = λ s q t. t ≡ s }

abbrev pub root_takes : PublishingGhosts Root
root_takes = record { fits = has_room; after_publish = AfterPublish }

-- a truncation
abbrev pub truncated : {S : Type 0} → Ghosts S → Ghosts (Truncation S)
truncated g = record { span = λ s. s.span; count = λ s. g.count s.below; pages = λ s e n. cut_page s.span (g.pages s.below e n); turn = λ s. g.turn s.below; in_order = λ s. Over g s.below s.span; after_fetch = λ s q t. MatchBool (passes q s.span) (g.after_fetch s.below q t.below × (t.span ≡ s.span)) (t ≡ s) }

abbrev pub truncation_takes : {S : Type 0} → PublishingGhosts S → PublishingGhosts (Truncation S)
truncation_takes h = record { fits = λ s. h.fits s.below; after_publish = λ s n t u. h.after_publish s.below n t u.below × (u.span ≡ s.span) }

-- a line
abbrev pub lined : {S : Type 0} → Ghosts S → Ghosts (Line S)
lined g = record { span = λ s. g.span s.below; count = λ s. g.count s.below; pages = λ s. g.pages s.below; turn = λ s n i. turn_by (next_fate s.fates.items) (g.turn s.below n i); in_order = λ s. g.in_order s.below; after_fetch = λ s q t. MatchBool (passes q (g.span s.below)) (Sent g.after_fetch s.fates.items t.fates.items s.below t.below s.scratch t.scratch q) (t ≡ s) }

abbrev pub line_takes : {S : Type 0} → PublishingGhosts S → PublishingGhosts (Line S)
line_takes h = record { fits = λ s. h.fits s.below; after_publish = λ s n t u. h.after_publish s.below n t u.below × (u.fates ≡ s.fates) × (u.scratch ≡ s.scratch) }

-- a relay
abbrev pub relayed : {S : Type 0} → Ghosts S → Ghosts (Relay S)
relayed g = record { span = λ s. g.span s.below; count = λ s. g.count s.below; pages = λ s. g.pages s.below; turn = λ s. relay_turn (kept s.places) (g.turn s.below); in_order = λ s. g.in_order s.below × AllFrom (meaning g s.below) (kept s.places); after_fetch = λ s q t. MatchBool (passes q (g.span s.below)) (Relayed g (kept s.places) (kept t.places) s.below t.below q) (t ≡ s) }

abbrev pub relay_takes : {S : Type 0} → PublishingGhosts S → PublishingGhosts (Relay S)
relay_takes h = record { fits = λ s. h.fits s.below; after_publish = λ s n t u. h.after_publish s.below n t u.below × (u.places ≡ s.places) × (u.scratch ≡ s.scratch) }

-- what the relay stands on, and the whole stack
abbrev pub source_means : Ghosts (Line (Truncation Root))
source_means = lined (truncated of_root)

abbrev pub stack_means : Ghosts (Line (Relay (Line (Truncation Root))))
stack_means = lined (relayed source_means)

abbrev pub stack_takes : PublishingGhosts (Line (Relay (Line (Truncation Root))))
stack_takes = line_takes (relay_takes (line_takes (truncation_takes root_takes)))
