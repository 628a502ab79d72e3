-- The items of a file are those of a listing.
use Rattle.std.proofs.Common.{◌≡◌, ℕ, ◌+◌, ◌<◌, ◌≤◌, Bool, true, false, cond, ltb, ◌⊎◌, List, [], ◌∷◌, ◌++◌, map, length, Some, None, sym, refl, ap, ◌∙◌, subst, inl, inr, ⊎_elim, append_assoc, append-nil, arith}
use Rattle.std.specs.List.{flat_map}
use Rattle.std.proofs.lemmas.List.{length-map, length_push, map_push, flat_map_more}
use Rattle.theory.specs.Lists.{◌∈◌}
use Rattle.theory.specs.Numbering.{count}
use Rattle.theory.proofs.Members.{in_left, in_right, in_append}
use Rattle.network.specs.declared.refusal.Refusal.TheVariants.{Misplaced}
use Rattle.network.specs.Bounds.{most_tables, PointsWithin}
use Rattle.network.specs.Points.{Entry, values_of}
use Rattle.netfile.specs.declared.record.Expectation.TheVariants.{Points, Tables, Nothing}
use Rattle.netfile.specs.Records.{Item, head, point, table, pair, end}
use Rattle.netfile.specs.Reading.{State, start, objection, after, contents}
use Rattle.netfile.specs.Listings.{TableListing, Listing, EntryWithin, ListedWithin, ListingWithin, pair_count, listed}
use Rattle.netfile.specs.Conditions.{Finished, Fits, AllPass, after_all}
use Rattle.netfile.proofs.Statements.{Lists, pair_item, table_items, items_of, ItemsAreListings}
use Rattle.netfile.proofs.Grids.{distinct_push, distinct_apart}
use Rattle.netfile.proofs.Midway.{expect_of, midway, bare, listing, with_one, Fresh, Few, few_values, Next, next, nothing_wrong, after_head, after_point, after_table, after_pair}

-- points and tables so far, of p points and n tables, keep the bounds, and tables come only after all the points
record Partly (p n : ℕ) (es : List Entry) (ts : List TableListing) : Type 0 where
  points_within : PointsWithin p
  points_so_far : length es ≤ p
  each_point : (e : Entry) → e ∈ es → EntryWithin e
  points_first : 0 < length ts → p ≤ length es
  tables_within : n ≤ most_tables
  tables_so_far : length ts ≤ n
  each_table : (t : TableListing) → t ∈ ts → ListedWithin (values_of es) t

-- the items of a head, some points and some tables
abbrev items_to : ℕ → ℕ → List Entry → List TableListing → List Item
items_to p n es ts = head p n ∷ (map point es ++ flat_map table_items ts)

-- the item leads to a longer part of a listing, or it ends a whole listing
abbrev Onward : ℕ → ℕ → List Entry → List TableListing → Item → Type 0
Onward p n es ts x =
    ((fs : List Entry) × (us : List TableListing) × Partly p n fs us × (after (midway p n es ts) x ≡ midway p n fs us) ×
    (items_to p n fs us ≡ items_to p n es ts ++ x ∷ [])) ⊎
    ((length es ≡ p) × (length ts ≡ n) × (x ≡ end (pair_count ts)))

-- what holds of each element and of one more holds of each
each_push : {X : Type 0} (P : X → Type 0) (xs : List X) (y : X) → ((x : X) → x ∈ xs → P x) → P y → (x : X) → x ∈ (xs ++ y ∷ []) → P x
each_push P xs y f g x h = ⊎_elim (f x) (λ i. ⊎_elim (λ e. subst P (sym e) g) (λ i. absurd i) i) (in_append xs (y ∷ []) x h)

module _ (p n : ℕ) (es : List Entry) where
  point_onward : (e : Entry) → Partly p n es [] → EntryWithin e → length es < p → Onward p n es [] (point e)
  point_onward e m f l = inl (es ++ e ∷ [], [], kept, after_point p n es e, simp (map_push, append-nil))
    where
      kept : Partly p n (es ++ e ∷ []) []
      kept =
          record {
            points_within = m.points_within;
            points_so_far = omega (arith, length_push es e);
            each_point = each_push EntryWithin es e m.each_point f;
            points_first = λ h. absurd (omega arith);
            tables_within = m.tables_within;
            tables_so_far = m.tables_so_far;
            each_table = λ t h. absurd h;
          }

  table_onward :
      (ts : List TableListing) (l h : ℕ) → Partly p n es ts → l < h → Next p n es ts (table l h) → Onward p n es ts (table l h)
  table_onward ts l h m a w =
      inl (es, ts ++ bare l h ∷ [], kept, after_table p n es ts l h, sym (flat_map_more table_items (head p n ∷ map point es) ts (bare l h)))
    where
      kept : Partly p n es (ts ++ bare l h ∷ [])
      kept =
          record {
            points_within = m.points_within;
            points_so_far = m.points_so_far;
            each_point = m.each_point;
            points_first = λ _. w.0.0;
            tables_within = m.tables_within;
            tables_so_far = omega (arith, length_push ts (bare l h));
            each_table =
                each_push (ListedWithin (values_of es)) ts (bare l h) m.each_table
                (record { ascends = a; inside = omega (arith, length-map es (λ (e : Entry). e.values)); of_values = λ x i. absurd i; distinct = tt });
          }

  pair_onward :
      (ts : List TableListing) (t : TableListing) (i j : ℕ) → Partly p n es (ts ++ t ∷ []) → Fresh (values_of es) t (i, j) →
      Onward p n es (ts ++ t ∷ []) (pair i j)
  pair_onward ts t i j m f =
      let few = few_values es m.each_point in
      let after_it = after_pair p n es ts t i j (omega (arith, f.0, few t.low)) (omega (arith, f.1, few t.high)) in
      inl (es, ts ++ with_one t (i, j) ∷ [], kept, after_it, items)
    where
      w : ListedWithin (values_of es) t
      w = m.each_table t (in_right ts (t ∷ []) t (inl refl))

      kept : Partly p n es (ts ++ with_one t (i, j) ∷ [])
      kept =
          record {
            points_within = m.points_within;
            points_so_far = m.points_so_far;
            each_point = m.each_point;
            points_first = λ _. m.points_first (omega (arith, length_push ts t));
            tables_within = m.tables_within;
            tables_so_far = omega (arith, m.tables_so_far, length_push ts t, length_push ts (with_one t (i, j)));
            each_table =
                each_push (ListedWithin (values_of es)) ts (with_one t (i, j)) (λ u h. m.each_table u (in_left ts (t ∷ []) u h))
                (record {
                  ascends = w.ascends;
                  inside = w.inside;
                  of_values =
                      each_push (λ (x : ℕ × ℕ). (x.0 < count (values_of es) t.low) × (x.1 < count (values_of es) t.high))
                      t.pairs (i, j) w.of_values (f.0, f.1);
                  distinct = distinct_push t.pairs (i, j) w.distinct f.2;
                });
          }

      items : items_to p n es (ts ++ with_one t (i, j) ∷ []) ≡ items_to p n es (ts ++ t ∷ []) ++ pair i j ∷ []
      items =
          let so_far : List Item = head p n ∷ map point es in
          sym (flat_map_more table_items so_far ts (with_one t (i, j))) ∙
          ap (λ ys. (so_far ++ flat_map table_items ts) ++ table t.low t.high ∷ ys) (map_push pair_item t.pairs (i, j)) ∙
          sym (append_assoc (so_far ++ flat_map table_items ts) (table_items t) (pair i j ∷ [])) ∙
          ap (λ ys. ys ++ pair i j ∷ []) (flat_map_more table_items so_far ts t)

  -- an item in place leads on
  onward : (ts : List TableListing) (x : Item) → Partly p n es ts → Fits x → Next p n es ts x → Onward p n es ts x
  onward ts (head q k) m f w = absurd w
  onward ts (point e) m f w =
      subst (λ us. Partly p n es us → Onward p n es us (point e)) (sym w.0) (λ m. point_onward e m f w.1) m
  onward ts (table l h) m f w = table_onward ts l h m f w
  onward ts (pair i j) m f w =
      subst (λ us. Partly p n es us → Onward p n es us (pair i j)) (sym w.2) (λ m. pair_onward w.0 w.1 i j m w.3) m
  onward ts (end k) m f w =
      inr (omega (arith, m.points_so_far, w.0.0), omega (arith, m.tables_so_far, w.0.1), ap end w.1)

  -- before the end record more is expected
  unfinished : (ts : List TableListing) → expect_of p es ts ≡ Nothing → ⊥
  unfinished [] e = go (ltb (length es) p) e
    where
      go : (b : Bool) → cond b Points Tables ≡ Nothing → ⊥
      go true e = let z : ◌≡◌ {A = ℕ} 0 1 = cc in omega arith
      go false e = let z : ◌≡◌ {A = ℕ} 0 1 = cc in omega arith
  unfinished (t ∷ ts) e = let z : ◌≡◌ {A = ℕ} 0 1 = cc in omega arith

misplaced : Some Misplaced ≡ None → ⊥
misplaced h = let z : ◌≡◌ {A = ℕ} 0 1 = cc in omega arith

-- after the end nothing comes
ended : (s : State) (k : ℕ) (ys : List Item) → AllPass (after s (end k)) ys → ys ≡ []
ended s k [] a = refl
ended s k (y ∷ ys) a = absurd (misplaced a.1)

-- the items are those of a listing that keeps the bounds and says what is known after them
abbrev OfListing : List Item → State → Type 0
OfListing xs s = (l : Listing) × ListingWithin l × (items_of l ≡ xs) × (listed l ≡ contents s)

-- after all points and tables the end record ends a listing
whole_listing :
    (p n : ℕ) (es : List Entry) (ts : List TableListing) → Partly p n es ts → length es ≡ p → length ts ≡ n →
    OfListing (items_to p n es ts ++ end (pair_count ts) ∷ []) (after (midway p n es ts) (end (pair_count ts)))
whole_listing p n es ts m e f = (record { points = es; tables = ts }, within, items, refl)
  where
    within : ListingWithin (record { points = es; tables = ts })
    within =
        record {
          points_within = subst PointsWithin (sym e) m.points_within;
          each_point = m.each_point;
          tables_within = omega (arith, m.tables_within);
          each_table = m.each_table;
        }

    items : items_of (record { points = es; tables = ts }) ≡ items_to p n es ts ++ end (pair_count ts) ∷ []
    items = λ k. head (e k) (f k) ∷ sym (append_assoc (map point es) (flat_map table_items ts) (end (pair_count ts) ∷ [])) k

-- from any part of a listing, items that pass up to the end make it a whole listing
finishes :
    (ys : List Item) (p n : ℕ) (es : List Entry) (ts : List TableListing) → Partly p n es ts → AllPass (midway p n es ts) ys →
    Finished (after_all (midway p n es ts) ys) → OfListing (items_to p n es ts ++ ys) (after_all (midway p n es ts) ys)
finishes [] p n es ts m a f = absurd (unfinished p n es ts f)
finishes (x ∷ ys) p n es ts m a f =
    ⊎_elim
    (λ w.
    let a' = subst (λ s. AllPass s ys) w.3 a.2 in
    let f' = subst (λ s. Finished (after_all s ys)) w.3 f in
    let r = finishes ys p n w.0 w.1 w.2 a' f' in
    let items = r.2 ∙ ap (λ zs. zs ++ ys) w.4 ∙ append_assoc (items_to p n es ts) (x ∷ []) ys in
    (r.0, r.1, items, r.3 ∙ ap (λ s. contents (after_all s ys)) (sym w.3)))
    (λ w.
    let P : Item → List Item → Type 0 = λ y zs. OfListing (items_to p n es ts ++ y ∷ zs) (after_all (after (midway p n es ts) y) zs) in
    let done = ended (midway p n es ts) (pair_count ts) ys (subst (λ y. AllPass (after (midway p n es ts) y) ys) w.2 a.2) in
    subst (λ y. P y ys) (sym w.2) (subst (P (end (pair_count ts))) (sym done) (whole_listing p n es ts m w.0 w.1)))
    (onward p n es ts x m a.0 (next p n es (few_values es m.each_point) ts m.points_first x a.1))

-- items that pass up to the end are those of a listing
listing_from : (xs : List Item) → AllPass start xs → Finished (after_all start xs) → OfListing xs (after_all start xs)
listing_from [] a f = let z : ◌≡◌ {A = ℕ} 0 1 = cc in absurd (omega arith)
listing_from (head p n ∷ ys) a f =
    subst (λ s. AllPass s ys → Finished (after_all s ys) → OfListing (head p n ∷ ys) (after_all s ys)) (sym (after_head p n a.0.0.0))
    (finishes ys p n [] [] begun) a.2 f
  where
    begun : Partly p n [] []
    begun =
        record {
          points_within = a.0.0;
          points_so_far = omega arith;
          each_point = λ e h. absurd h;
          points_first = λ h. absurd (omega arith);
          tables_within = a.0.1;
          tables_so_far = omega arith;
          each_table = λ t h. absurd h;
        }
listing_from (point e ∷ ys) a f = absurd (misplaced a.1)
listing_from (table l h ∷ ys) a f = absurd (misplaced a.1)
listing_from (pair i j ∷ ys) a f = absurd (misplaced a.1)
listing_from (end k ∷ ys) a f = absurd (misplaced a.1)

-- the items pass after s, and lead to s'
record Runs (s : State) (xs : List Item) (s' : State) : Type 0 where
  pass : AllPass s xs
  leads : after_all s xs ≡ s'

-- one item, then others
runs_on : {s s' s'' : State} {x : Item} {xs : List Item} → Fits x → objection s x ≡ None → after s x ≡ s' → Runs s' xs s'' → Runs s (x ∷ xs) s''
runs_on {xs = xs} f o e r =
    record { pass = (f, o, subst (λ w. AllPass w xs) (sym e) r.pass); leads = ap (λ w. after_all w xs) e ∙ r.leads }

-- some items, then others
runs_then : {s s' s'' : State} {ys : List Item} (xs : List Item) → Runs s xs s' → Runs s' ys s'' → Runs s (xs ++ ys) s''
runs_then {ys = ys} [] q r =
    record { pass = subst (λ w. AllPass w ys) (sym q.leads) r.pass; leads = ap (λ w. after_all w ys) q.leads ∙ r.leads }
runs_then {s = s} (x ∷ xs) q r =
    runs_on q.pass.0 q.pass.1 refl (runs_then {s = after s x} xs (record { pass = q.pass.2; leads = q.leads }) r)

-- points that keep the bounds pass, up to the announced number
points_run :
    (p n : ℕ) (es fs : List Entry) → length es + length fs ≤ p → ((e : Entry) → e ∈ fs → EntryWithin e) →
    Runs (midway p n es []) (map point fs) (midway p n (es ++ fs) [])
points_run p n es [] l f = record { pass = tt; leads = ap (λ w. midway p n w []) (sym (append-nil es)) }
points_run p n es (e ∷ fs) l f =
    runs_on (f e (inl refl)) (nothing_wrong p n es [] (point e) (refl, omega arith)) (after_point p n es e)
    (subst (λ w. Runs (midway p n (es ++ e ∷ []) []) (map point fs) (midway p n w [])) (append_assoc es (e ∷ []) fs)
    (points_run p n (es ++ e ∷ []) fs (omega (arith, length_push es e)) (λ u h. f u (inr h))))

module _ (p n : ℕ) (es : List Entry) (few : Few (values_of es)) where
  -- the pairs of a table pass, after some of them
  pairs_run :
      (ts : List TableListing) (t : TableListing) (ps qs : List (ℕ × ℕ)) → ListedWithin (values_of es) (listing t (ps ++ qs)) →
      Runs (midway p n es (ts ++ listing t ps ∷ [])) (map pair_item qs) (midway p n es (ts ++ listing t (ps ++ qs) ∷ []))
  pairs_run ts t ps [] w = record { pass = tt; leads = ap (λ rs. midway p n es (ts ++ listing t rs ∷ [])) (sym (append-nil ps)) }
  pairs_run ts t ps (x ∷ qs) w =
      let v = w.of_values x (in_right ps (x ∷ qs) x (inl refl)) in
      let P : List (ℕ × ℕ) → Type 0 =
      λ rs. Runs (midway p n es (ts ++ listing t (ps ++ x ∷ []) ∷ [])) (map pair_item qs) (midway p n es (ts ++ listing t rs ∷ [])) in
      runs_on tt
      (nothing_wrong p n es (ts ++ listing t ps ∷ []) (pair_item x) (ts, listing t ps, refl, (v.0, v.1, distinct_apart ps x qs w.distinct)))
      (after_pair p n es ts (listing t ps) x.0 x.1 (omega (arith, v.0, few t.low)) (omega (arith, v.1, few t.high)))
      (subst (λ rs. ListedWithin (values_of es) (listing t rs) → P rs) (append_assoc ps (x ∷ []) qs) (pairs_run ts t (ps ++ x ∷ []) qs) w)

  -- tables that keep the bounds pass after all the points, up to the announced number
  tables_run :
      (ts us : List TableListing) → p ≤ length es → length ts + length us ≤ n → ((t : TableListing) → t ∈ us → ListedWithin (values_of es) t) →
      Runs (midway p n es ts) (flat_map table_items us) (midway p n es (ts ++ us))
  tables_run ts [] c l f = record { pass = tt; leads = ap (midway p n es) (sym (append-nil ts)) }
  tables_run ts (t ∷ us) c l f =
      let w = f t (inl refl) in
      runs_then (table_items t)
      (runs_on w.ascends
      (nothing_wrong p n es ts (table t.low t.high) ((c, omega arith), omega (arith, w.inside, length-map es (λ (e : Entry). e.values))))
      (after_table p n es ts t.low t.high) (pairs_run ts t [] t.pairs w))
      (subst (λ vs. Runs (midway p n es (ts ++ t ∷ [])) (flat_map table_items us) (midway p n es vs)) (append_assoc ts (t ∷ []) us)
      (tables_run (ts ++ t ∷ []) us c (omega (arith, length_push ts t)) (λ u h. f u (inr h))))

-- the items of a listing that keeps the bounds pass
listing_runs :
    (l : Listing) → ListingWithin l → pair_count l.tables < 65536 →
    Runs start (items_of l) (after (midway (length l.points) (length l.tables) l.points l.tables) (end (pair_count l.tables)))
listing_runs l w k =
    runs_on (w.points_within, w.tables_within) refl (after_head p n w.points_within.0)
    (runs_then (map point es) (points_run p n [] es (omega arith) w.each_point)
    (runs_then (flat_map table_items ts) (tables_run p n es (few_values es w.each_point) [] ts (omega arith) (omega arith) w.each_table)
    (runs_on k (nothing_wrong p n es ts (end (pair_count ts)) ((omega arith, omega arith), refl)) refl (record { pass = tt; leads = refl }))))
  where
    es : List Entry
    es = l.points

    ts : List TableListing
    ts = l.tables

    p : ℕ
    p = length es

    n : ℕ
    n = length ts

pub items_are_listings : ItemsAreListings
items_are_listings xs c = (
  (λ h. let r = listing_from xs h.pass h.finished in (r.0, r.1, r.2, r.3 ∙ h.says)),
  λ l w k e f.
      let r = listing_runs l w k in
      subst (λ ys. Lists ys c) e
      (record { pass = r.pass; finished = ap (λ (s : State). s.expect) r.leads; says = ap contents r.leads ∙ f }),
)
