-- W-208: the answers of fetching an order. `EveryOrder` speaks of the listed rows; here the same is said of the policies that are handed back. `proofs/Policies.antt` proves it.
use Rattle.std.specs.Prelude.{◌≡◌, ◌↔◌, true, List, ℕ, ◌≤◌, ◌<◌, length, get_or}
use Rattle.basics.specs.Below.{list_of}
use Rattle.policy.specs.Policy.{no_policy, in_range}
use Rattle.file.specs.File.{byte, read_file}
use Rattle.file.specs.Taken.{Between, SoundTiming, Encodes, policy_of}
use Rattle.writer.specs.Written.{file_of}
use Rattle.orders.specs.Listed.{count_of, rows_at, fetched}
use Rattle.orders.specs.EveryOrder.{LegalOrder, value}
use Rattle.policy.specs.declared.Policy.{Policy}

-- what is asked of n and of the timing body: that it has a length and numbers that document 01, and W-206, allow
pub record Asked (n : ℕ) (body : List ℕ) : Type 0 where
  pub few : Between 1 n 4
  pub size : Between 10 (length body) 11
  pub sound : SoundTiming (length body) (byte body)

-- "policies with E = 4, minimums 0 and a given timing body": the policy of an order's rows
unfoldable pub small_policy : ℕ → List ℕ → List ℕ → Policy
small_policy n rows body = policy_of n (λ i. get_or rows i 0) 4 (λ i. 0) (length body) (byte body)

-- of every n, place and list of bytes
pub record Fetches (n place : ℕ) (body : List ℕ) : Type 0 where
  -- "20 for n outside 1 to 4, asked first; then 2 or 8 for the timing, then the place": 0 where none refuses it, whatever the place
  pub twenty : ((fetched n place body).status ≡ 20) ↔ (Between 1 n 4 → ⊥)
  pub two : Between 1 n 4 → ((fetched n place body).status ≡ 2) ↔ (Between 10 (length body) 11 → ⊥)
  pub eight : Between 1 n 4 → Between 10 (length body) 11 → ((fetched n place body).status ≡ 8) ↔ (SoundTiming (length body) (byte body) → ⊥)
  pub zero : ((fetched n place body).status ≡ 0) ↔ Asked n body
  -- "a refusal gives the policy of no classes, and so, with no number, does a place past the last"
  pub refused : (Asked n body → ⊥) → (fetched n place body).policy ≡ no_policy
  pub past_last : count_of n ≤ place → (fetched n place body).policy ≡ no_policy
  -- "Each is fetched by its place": else it is the policy of the order at that place
  pub order_at : Asked n body → place < count_of n → (fetched n place body).policy ≡ small_policy n (rows_at n place) body

-- what is handed back at a place below the count, where nothing is refused
pub record HandedBack (n place : ℕ) (body : List ℕ) (asked : Asked n body) (below : place < count_of n) : Type 0 where
  -- it is in range, and the one that reading its file gives
  pub in-range : in_range (fetched n place body).policy ≡ true
  pub reads : read_file (file_of (fetched n place body).policy) ≡ record { status = 0; policy = (fetched n place body).policy }
  -- that file has the order's rows, E = 4, n minimums of 0, and the timing body as it was given
  pub file : Encodes (file_of (fetched n place body).policy) n (λ i. get_or (rows_at n place) i 0) 4 (λ i. 0) (length body) (byte body)

-- a policy's rows, one for each of its classes
unfoldable pub rows_of : Policy → List ℕ
rows_of p = list_of p.classes (λ i. get_or p.rows i 0)

-- the policy of an order stands at one place and no other
pub record AtOnePlace (n : ℕ) (rows body : List ℕ) : Type 0 where
  pub place : ℕ
  pub below : place < count_of n
  pub fetches : (fetched n place body).policy ≡ small_policy n rows body
  pub only : (other : ℕ) → other < count_of n → (fetched n other body).policy ≡ small_policy n rows body → other ≡ place

-- the policies of n classes with a timing body, where neither is refused
pub record EveryPolicy (n : ℕ) (body : List ℕ) (asked : Asked n body) : Type 0 where
  -- "Each legal order is there, and none twice."
  pub there : (rows : List ℕ) → LegalOrder n rows → AtOnePlace n rows body
  -- and no other
  pub legal : (place : ℕ) → place < count_of n → LegalOrder n (rows_of (fetched n place body).policy)
  -- "They come by rising value of the rows"
  pub rising : (place later : ℕ) → place < later → later < count_of n → value (rows_of (fetched n place body).policy) < value (rows_of (fetched n later body).policy)
