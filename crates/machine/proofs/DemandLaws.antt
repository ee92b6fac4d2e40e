-- Demand 3 over every list of calls: from an accepted lay and clear, by the calls' own promises. Assumes nothing.
use mathlib.Core.Path.{◌≡◌, refl, sym, ap, ap₂, ◌∙◌}
use mathlib.Core.List.{List, [], ◌++◌}
use mathlib.Core.Option.{Option, some, none}
use Prim.Native.Nat.{ℕ}
use native.Mathlib.Omega.{arith}
use lib.ListN.{length, drop}
use Rattle.words.specs.Refusals.{judge, unless, value, refused}
use Rattle.words.specs.Handles.{handle_of}
use Rattle.counters.specs.Tree.{blocks_of, counter_count}
use Rattle.counters.specs.Record.{StripRecord, packed_words, built_counters, built_record}
use Rattle.counters.specs.Promises.{created, uncreated, outcome}
use Rattle.counters.specs.Calls.{checks}
use Rattle.image.specs.Layout.{unit_bytes}
use Rattle.image.specs.Chain.{header_of}
use Rattle.image.specs.Shelf.{written}
use Rattle.image.specs.Calls.{clear_table, image_outcome}
use Rattle.machine.specs.Machine.{create, clear, Step, accepted, through, shelf_kind}
use Rattle.machine.specs.Unit.{UnitState, unit_state, afresh, by_created, StripActed, ShelfActed, by_image}
use Rattle.machine.specs.Demand.{Opens, create_first, clear_first, start_of, EveryList, EveryOpening}
use Rattle.machine.proofs.StateLaws.{Good, opened_good, created_is, cleared_is}
use Rattle.machine.proofs.StripStepLaws.{numbered}
use Rattle.machine.proofs.ListLaws.{every_list, every_turn}

-- an accepted lay: its table passed, and it left the record of an empty strip
accepted_create : (c : ℕ) (r : StripRecord) (y : Step StripRecord) → StripActed (create c) r y → y.refusal ≡ 0
    → (judge (checks (handle_of c []) (length r.words) (length r.counters)) ≡ none) × (y.next ≡ built_record c [])
accepted_create c r y a z = go (judge (checks (handle_of c []) (length r.words) (length r.counters))) refl
  where
    by : Option ℕ → Step StripRecord
    by o =
        by_created r.handle
        (unless o (λ n. outcome (uncreated n) r.words r.counters)
        (outcome (created (handle_of c []) (counter_count (blocks_of c))) (packed_words c []) (built_counters c [])))

    go : (o : Option ℕ) → judge (checks (handle_of c []) (length r.words) (length r.counters)) ≡ o
        → (judge (checks (handle_of c []) (length r.words) (length r.counters)) ≡ none) × (y.next ≡ built_record c [])
    go none p = (p, ap (λ (q : Step StripRecord). q.next) (a ∙ ap by p))
    go (some n) p =
        absurd
        (numbered (checks (handle_of c []) (length r.words) (length r.counters)) (λ e. omega arith, (λ e. omega arith, (λ e. omega arith, tt))) n p
        (sym (ap (λ (q : Step StripRecord). q.refusal) (a ∙ ap by p)) ∙ z))

-- an accepted clear: its table passed, and it left no row, over the bytes lent
accepted_clear : (r : StripRecord) (im : List ℕ) (y : Step (List ℕ)) → ShelfActed clear r im y → y.refusal ≡ 0
    → (judge (clear_table (length im)) ≡ none) × (y.next ≡ written shelf_kind [] im)
accepted_clear r im y a z = go (judge (clear_table (length im))) refl
  where
    go : (o : Option ℕ) → judge (clear_table (length im)) ≡ o → (judge (clear_table (length im)) ≡ none) × (y.next ≡ written shelf_kind [] im)
    go none p = (p, ap (λ (q : Step (List ℕ)). q.next) (a ∙ ap by_image (cleared_is im p)))
    go (some n) p =
        absurd
        (numbered (clear_table (length im)) (λ e. omega arith, tt) n p
        (sym (ap (λ (q : Step (List ℕ)). q.refusal)
        (a ∙ ap (λ (o : Option ℕ). by_image (unless o (λ k. image_outcome (refused k) im) (image_outcome (value unit_bytes) (header_of shelf_kind 0 ++ drop unit_bytes im)))) p))
        ∙ z))

-- both, in either order: the opened machine is good, and its state laid afresh is what they left
pub opened : (c : ℕ) (x y : UnitState) → Opens c x y → Good (start_of c x) × (y ≡ afresh (start_of c x))
opened c x _ (create_first y z a p b q) =
    let l = accepted_create c x.strip (through (λ u. u.strip) y) a.0 p in
    let k = accepted_clear y.next.strip y.next.image (through (λ u. u.image) z) b.0 q in
    let passes : judge (clear_table (length x.image)) ≡ none = ap (λ (im : List ℕ). judge (clear_table (length im))) (sym a.1) ∙ k.0 in (
      opened_good c x.strip.words x.strip.counters x.image l.0 passes,
      ap₂ (λ (r : StripRecord) (im : List ℕ). unit_state r im) (b.1 ∙ l.1) (k.1 ∙ ap (written shelf_kind []) a.1),
    )
opened c x _ (clear_first y z a p b q) =
    let k = accepted_clear x.strip x.image (through (λ u. u.image) y) a.0 p in
    let l = accepted_create c y.next.strip (through (λ u. u.strip) z) b.0 q in
    let passes : judge (checks (handle_of c []) (length x.strip.words) (length x.strip.counters)) ≡ none =
    ap (λ (r : StripRecord). judge (checks (handle_of c []) (length r.words) (length r.counters))) (sym a.1) ∙ l.0 in (
      opened_good c x.strip.words x.strip.counters x.image passes k.0,
      ap₂ (λ (r : StripRecord) (im : List ℕ). unit_state r im) l.1 (b.1 ∙ k.1),
    )

-- the statement
pub every_opened_list : EveryList
every_opened_list c x y z ks out o t =
    let g = opened c x y o in
    ((every_list t (start_of c x) g.0 g.1).same, every_turn t (start_of c x) g.0 g.1)

-- and the premise is had: where both tables pass, lay and clear lead to the opened machine's state laid afresh, from any handle
pub accepted_opens : EveryOpening
accepted_opens c x p q =
    create_first (accepted (unit_state (built_record c []) x.image) (counter_count (blocks_of c)) 0) (accepted (afresh (start_of c x)) unit_bytes 0)
    (sym (ap (by_created x.strip.handle) (created_is c x.strip.words x.strip.counters p)), refl) refl
    (sym (ap by_image (cleared_is x.image q)), refl) refl
