-- The last version in a listing.
use Rattle.std.specs.Prelude.{◌≡◌, ℕ, ◌<◌, ◌≤◌, List, length, take, Result, Ok, Err, slice_get}
use Rattle.std.specs.Option.{IsSomeAnd}
use Rattle.ice_store.specs.Places.{Parts}
use Rattle.ice_store.specs.declared.store.Listed.{Listed}
use Rattle.commit_history.specs.Listings.{greatest}
use Rattle.commit_versions.specs.Opening.{version_limit}
use Rattle.commit_versions.specs.declared.types.Latest.{Latest}
use Rattle.commit_versions.specs.declared.types.Found.{Found}
use Rattle.commit_versions.specs.declared.types.Found.TheVariants.{NoVersion, Base, Beyond}

-- the item of a listing at this index has this number
abbrev pub HasNumberAt : (Parts → ℕ) → List Listed → ℕ → ℕ → Type 0
HasNumberAt number listed index version = (index < length listed) × IsSomeAnd (slice_get listed index) (λ l. number l.place ≡ version)

-- the greatest number and where it stands, or the first item whose number is beyond the limit
abbrev pub IsLatest : (Parts → ℕ) → List Listed → Result Latest ℕ → Type 0
IsLatest number listed (Ok latest) = (latest.version ≡ greatest number listed) × (latest.version < version_limit) × (0 < latest.version → HasNumberAt number listed latest.index latest.version)
IsLatest number listed (Err index) = (index < length listed) × IsSomeAnd (slice_get listed index) (λ l. version_limit ≤ number l.place) × (greatest number (take index listed) < version_limit)

-- the numbers of a base
pub record IsBaseNumber (number : Parts → ℕ) (place : Parts) (version : ℕ) : Type 0 where
  pub is : number place ≡ version
  pub positive : 0 < version
  pub below : version < version_limit

-- the place of the first item whose number is beyond the limit
pub record IsFirstBeyond (number : Parts → ℕ) (listed : List Listed) (place : Parts) : Type 0 where
  pub index : ℕ
  pub within : index < length listed
  pub item : IsSomeAnd (slice_get listed index) (λ l. l.place ≡ place)
  pub beyond : version_limit ≤ number place
  pub before : greatest number (take index listed) < version_limit

-- what a listing shows of the last version: none, its place and number, or the first place beyond the limit on version numbers
abbrev pub IsFound : (Parts → ℕ) → List Listed → Found → Type 0
IsFound number listed NoVersion = greatest number listed ≡ 0
IsFound number listed (Base place v) = IsBaseNumber number place v × (v ≡ greatest number listed)
IsFound number listed (Beyond place) = IsFirstBeyond number listed place × (version_limit ≤ greatest number listed)

-- where a base was found, its place has its number
abbrev pub HasBaseNumber : (Parts → ℕ) → Found → Type 0
HasBaseNumber number NoVersion = Unit {0}
HasBaseNumber number (Base place v) = IsBaseNumber number place v
HasBaseNumber number (Beyond place) = Unit {0}
