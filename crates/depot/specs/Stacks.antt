-- The stack of a script. Assumes nothing.
use Rattle.std.specs.Prelude.{◌≡◌, List, map}
use Rattle.zone.specs.Intervals.{era}
use Rattle.root.specs.declared.roots.Root.{Root}
use Rattle.root.specs.Roots.{New}
use Rattle.truncation.specs.declared.truncations.Truncation.{Truncation}
use Rattle.truncation.specs.Truncating.{span_kept}
use Rattle.line.specs.declared.lines.Line.{Line}
use Rattle.line.specs.Fates.{fates_of}
use Rattle.kept.specs.Keeping.{kept, none_kept}
use Rattle.relay.specs.declared.relays.Relay.{Relay}
use Rattle.history.specs.Promises.{Replayed}
use Rattle.history.specs.Sources.{publishing_source}
use Rattle.client.specs.declared.listing.Entry.{Entry}
use Rattle.client.specs.declared.listing.Outcome.{Outcome}
use Rattle.client.specs.Listing.{entry_of, report_of}
use Rattle.script.specs.declared.scripts.Setup.{Setup}
use Rattle.depot.specs.Meanings.{source_means, stack_means, stack_takes}

-- what the relay stands on: a line with the uplink's fates, to the truncation of a new root with the storage
pub record Sourced (setup : Setup) (s : Line (Truncation Root)) : Type 0 where
  pub uplink : s.fates.items ≡ fates_of setup.uplink.now
  pub span : s.below.span ≡ span_kept setup.span era
  pub root : New setup.storage.entries setup.storage.rows s.below.below
  pub order : source_means.in_order s

-- the whole stack: a line with the downlink's fates, to a relay that keeps nothing yet
pub record Stacked (setup : Setup) (s : Line (Relay (Line (Truncation Root)))) : Type 0 where
  pub downlink : s.fates.items ≡ fates_of setup.downlink.now
  pub keeps : kept s.below.places ≡ none_kept
  pub source : Sourced setup s.below.below
  pub order : stack_means.in_order s

-- the outcomes are those of a history of the calls on a new client over the stack, which was in order
pub record Played (setup : Setup) (calls : List Entry) (outcomes : List Outcome) : Type 0 where
  pub first : Line (Relay (Line (Truncation Root)))
  pub last : Line (Relay (Line (Truncation Root)))
  pub stacked : Stacked setup first
  pub replayed : Replayed (publishing_source stack_means stack_takes) first last (map entry_of calls) (map report_of outcomes)
