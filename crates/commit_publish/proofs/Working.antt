-- What a publish works on.
use Rattle.std.proofs.Common.{ℕ, List}
use Rattle.ice_store.specs.Places.{Parts}
use Rattle.ice_store.specs.declared.history.Held.{Held}
use Rattle.ice_store.specs.declared.history.Past.{Past}
use Rattle.ice_store.specs.declared.history.Step.{Step}
use Rattle.commit_history.specs.Readings.{Content, IsLocal, reading_of, rules_of}
use Rattle.commit_history.specs.Tables.{InReach, sealed_at}
use Rattle.commit_history.specs.Versions.{number_in}
use Rattle.commit_history.specs.Mannered.{IsMannered}
use Rattle.commit_history.proofs.Numbering.{numbering}
use Rattle.commit_publish.specs.declared.steps.Route.{Route}
use Rattle.commit_publish.specs.Stages.{Aim, IsNarrow}
use Rattle.commit_publish.proofs.CallLaws.{Work}

-- a call's arguments, with what holds of them
abbrev pub work : (content : Parts → Content) → ((table : Parts) → IsLocal (reading_of content table)) → (allows : Past → Step → Type 0) (route : Route) (bytes : List ℕ)
    → IsMannered (rules_of content route.table allows) → Aim (number_in route.table) route → Work
work content localized allows route bytes mannered aim = record {
  rules = rules_of content route.table allows;
  ruled = numbering route.table;
  localized = localized route.table;
  mannered = mannered;
  route = route;
  bytes = bytes;
  aim = aim;
}

-- where bytes are narrow nothing is reached
pub never : (content : Parts → Content) (table : Parts) (bytes : List ℕ) → IsNarrow (content table) bytes → (files : List Held) (p : Parts) → InReach (reading_of content table) files p → ⊥
never content table bytes narrow files p r = narrow.unreached r.bytes (sealed_at files) p r.reached
