-- What a query keeps in the area while it searches, and what each of its steps asks and does.
use Rattle.std.specs.Prelude.{◌≡◌, ◌⊎◌, true, cond, List, ℕ, ◌+◌, ◌^◌, ◌≤◌, ◌<◌, ltb, length, get_or, set, drop}
use Rattle.std.proofs.Math.Option.{none}
use Rattle.open_list.specs.Entry.{no_key}
use Rattle.open_list.specs.Keys.{OpenList, CanLower, Cleared}
use Rattle.map.specs.declared.Site.{Site}
use Rattle.layout.specs.Regions.{parents_at, ends_at, arcs_at, label_word, depth_word, estimate_word, arc_word, with_depth, arc_end, arc_cost}
use Rattle.layout.specs.Map.{row_start, row_end, problem_at, Holds}
use Rattle.layout.specs.Rows.{InRow, IsArcWord}
use Rattle.layout.specs.Labels.{no_word, labels, Kept, listed_at, Lists}
use Rattle.model.specs.Limits.{max_places}
use Rattle.model.specs.Costs.{cost_at}
use Rattle.model.specs.Query.{next_limit, not_over}
use Rattle.model.specs.Terms.{NoMore}
use Rattle.query.specs.Front.{Front, FewestFound, count_below}
use Rattle.query.specs.Open.{open_words, keys, settled_at}
use Rattle.query.specs.Query.{Ready, outcome_of}
use Rattle.query.specs.declared.Asked.{Asked}

-- the words have the regions of n places
pub record HasRegions (n : ℕ) (w : List ℕ) : Type 0 where
  pub few : n ≤ max_places
  pub room : arcs_at n ≤ length w

-- what `clear` asks
pub record Clears (n : ℕ) (w : List ℕ) : Type 0 where
  pub regions : HasRegions n w
  pub ready : Ready n w

-- what `clear` leaves: no place has a label, none is open, and the words from the parents on are as before
pub record Blank (n : ℕ) (w₀ w : List ℕ) : Type 0 where
  pub same_length : length w ≡ length w₀
  pub same_rest : drop (parents_at n) w ≡ drop (parents_at n) w₀
  pub unlabelled : (v : ℕ) → v < n → label_word w v ≡ no_word
  pub none_open : Cleared n (open_words n w)

-- what `arrive` asks
pub record Arrives (n hand v d : ℕ) (w : List ℕ) : Type 0 where
  pub regions : HasRegions n w
  pub lowers : CanLower n hand v d (open_words n w)

-- what `arrive` leaves: v is labelled d at depth k and open with that key, no other place has another label, depth or key, and the words from
-- the parents on are as before
pub record Arrived (n v d k hand₀ : ℕ) (w₀ : List ℕ) (hand : ℕ) (w : List ℕ) : Type 0 where
  pub same_length : length w ≡ length w₀
  pub same_rest : drop (parents_at n) w ≡ drop (parents_at n) w₀
  pub list : OpenList n hand (open_words n w)
  pub label : label_word w v ≡ d
  pub other_labels : (u : ℕ) → u < n → (u ≡ v → ⊥) → label_word w u ≡ label_word w₀ u
  pub depth : depth_word n w v ≡ k
  pub other_depths : (u : ℕ) → u < n → (u ≡ v → ⊥) → depth_word n w u ≡ depth_word n w₀ u
  pub keys_set : keys n hand w ≡ set (keys n hand₀ w₀) v d

-- the words after v is reached again at the cost of its label, along k arcs
unfoldable pub less_deep : (n v k : ℕ) → List ℕ → List ℕ
less_deep n v k w = cond (ltb k (depth_word n w v)) (with_depth n w v k) w

-- labels and open list agree: an open place's key is its label
pub record Coherent (n hand : ℕ) (w : List ℕ) : Type 0 where
  pub regions : HasRegions n w
  pub list : OpenList n hand (open_words n w)
  pub key_label : (v : ℕ) → v < n → (get_or (keys n hand w) v 0 ≡ no_key) ⊎ (get_or (keys n hand w) v 0 ≡ label_word w v)

-- what `settle` asks
pub record Settles (n hand count v : ℕ) (w : List ℕ) : Type 0 where
  pub coherent : Coherent n hand w
  pub place : v < n
  pub more : count < n

-- what `settle` leaves: v has no key and is number `count` of the list, no other place has another key, and labels, depths, map and the list
-- so far are as before
pub record Settled (n count v hand₀ : ℕ) (w₀ : List ℕ) (hand : ℕ) (w : List ℕ) : Type 0 where
  pub kept : Kept n w₀ w
  pub list : OpenList n hand (open_words n w)
  pub keys_set : keys n hand w ≡ set (keys n hand₀ w₀) v no_key
  pub listed : listed_at n w count ≡ v
  pub listed_before : (i : ℕ) → i < count → listed_at n w i ≡ listed_at n w₀ i

-- the arc with the word x, from a place at cost d, gives v the cost e within the limit
pub record ByArc (n limit d x : ℕ) (w : List ℕ) (v e : ℕ) : Type 0 where
  pub ends : arc_end x ≡ v
  pub sum : d + arc_cost x ≡ e
  pub within : e + estimate_word n w v ≤ limit

-- an arc of the row of u before arc k does; and one of the whole row
pub record ByArcs (n limit d u k : ℕ) (w : List ℕ) (v e : ℕ) : Type 0 where
  pub number : ℕ
  pub from : row_start n w u ≤ number
  pub before : number < k
  pub by : ByArc n limit d (arc_word n w number) w v e

abbrev pub ByRow : (n limit d u : ℕ) (w : List ℕ) → ℕ → ℕ → Type 0
ByRow n limit d u w = ByArcs n limit d u (row_end n w u) w

-- v's label has fallen to one that By gives, v is open with it, and lies at depth k
pub record Fell (n : ℕ) (By : ℕ → ℕ → Type 0) (k : ℕ) (w₀ : List ℕ) (hand : ℕ) (w : List ℕ) (v : ℕ) : Type 0 where
  pub lower : label_word w v < label_word w₀ v
  pub key : get_or (keys n hand w) v 0 ≡ label_word w v
  pub depth : depth_word n w v ≡ k
  pub by : By v (label_word w v)

-- v's depth has fallen to k, and By gives its label
pub record Nearer (n : ℕ) (By : ℕ → ℕ → Type 0) (k : ℕ) (w₀ w : List ℕ) (v : ℕ) : Type 0 where
  pub fewer : k < depth_word n w₀ v
  pub depth : depth_word n w v ≡ k
  pub by : By v (label_word w v)

-- v has the label and the key that it had, and the depth too unless that has fallen
pub record Stays (n : ℕ) (By : ℕ → ℕ → Type 0) (k hand₀ : ℕ) (w₀ : List ℕ) (hand : ℕ) (w : List ℕ) (v : ℕ) : Type 0 where
  pub label : label_word w v ≡ label_word w₀ v
  pub key : get_or (keys n hand w) v 0 ≡ get_or (keys n hand₀ w₀) v 0
  pub depth : (depth_word n w v ≡ depth_word n w₀ v) ⊎ Nearer n By k w₀ w v

-- Arcs have been relaxed, each of which makes k arcs from the start. Where `By v e`, one of them gives v the cost e within the limit: no label
-- with its depth is more than e with k, and those that have changed are of this kind. The words from the parents on are as before.
pub record Relaxed (n : ℕ) (By : ℕ → ℕ → Type 0) (k hand₀ : ℕ) (w₀ : List ℕ) (hand : ℕ) (w : List ℕ) : Type 0 where
  pub same_length : length w ≡ length w₀
  pub same_rest : drop (parents_at n) w ≡ drop (parents_at n) w₀
  pub coherent : Coherent n hand w
  pub reached : (v e : ℕ) → v < n → By v e → NoMore (label_word w v) (depth_word n w v) e k
  pub moved : (v : ℕ) → v < n → Stays n By k hand₀ w₀ hand w v ⊎ Fell n By k w₀ hand w v

-- what `relax` asks
pub record Relaxes (n hand d x : ℕ) (w : List ℕ) : Type 0 where
  pub coherent : Coherent n hand w
  pub arc : IsArcWord n d x w

-- what `expand` asks
pub record Expands (s : Site) (hand u d : ℕ) (w : List ℕ) : Type 0 where
  pub holds : Holds s w
  pub coherent : Coherent s.places hand w
  pub place : u < s.places
  pub label_below : d < 2 ^ 30
  pub depth_below : depth_word s.places w u < 2 ^ 30

-- what `expand` does: the arcs of u, which make one arc more than its depth, are relaxed
abbrev pub RowRelaxed : (s : Site) (limit u d hand₀ : ℕ) (w₀ : List ℕ) (hand : ℕ) (w : List ℕ) → Type 0
RowRelaxed s limit u d hand₀ w₀ hand w =
    let n = s.places in
    Relaxed n (ByRow n limit d u w₀) (depth_word n w₀ u + 1) hand₀ w₀ hand w

-- the loop of `expand`: the arcs of u before arc number j are relaxed
pub record Expanding (n limit u d end k hand₀ : ℕ) (w₀ : List ℕ) (hand : ℕ) (w : List ℕ) (j : ℕ) : Type 0 where
  pub inside : InRow n u j end w₀
  pub one_more : k ≡ depth_word n w₀ u + 1
  pub relaxed : Relaxed n (ByArcs n limit d u j w₀) k hand₀ w₀ hand w

-- the loop of `query`, as it begins and after every expansion: a uniform-cost search is under way, each depth is the fewest arcs over the paths
-- found at the label's cost, and the settled places are listed
pub record Searching (s : Site) (limit budget left : ℕ) (w₀ : List ℕ) (hand : ℕ) (w : List ℕ) (count : ℕ) : Type 0 where
  pub same_map : drop (ends_at s.places) w ≡ drop (ends_at s.places) w₀
  pub same_length : length w ≡ length w₀
  pub coherent : Coherent s.places hand w
  pub front : Front (problem_at s w₀) limit (λ v. cost_at (labels s.places w) v) (settled_at s.places hand w)
  pub counted : count_below (settled_at s.places hand w) s.places ≡ count
  pub fewest : FewestFound (problem_at s w₀) limit (λ v. settled_at s.places hand w v ≡ true) (λ v. cost_at (labels s.places w) v)
      (depth_word s.places w)
  pub listed : Lists s.places count (λ v. settled_at s.places hand w v ≡ true) w
  pub in_budget : count ≤ budget
  pub lasts : count ≤ left

-- what `all_settled` says: the outcome where no goal is within, by the next limit of the labels
pub record AllSettled (s : Site) (count : ℕ) (w : List ℕ) (r : Asked) : Type 0 where
  pub count_is : r.count ≡ count
  pub outcome_is : outcome_of r.outcome ≡ not_over none (next_limit (problem_at s w) (labels s.places w))
