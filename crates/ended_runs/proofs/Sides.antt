-- At the end of a run the join of a side input with sound estimators and default triggers above it has put out the plain side input.
use Rattle.std.proofs.Common.{◌≡◌, ℕ, ◌+◌, true, List, [], ◌∷◌, ◌++◌, map, get_or, refl, sym, ap, subst}
use Rattle.std.specs.Prelude.{None, Some, ◌==◌, ◌≤ℤ◌, unwrap_or}
use Rattle.std.specs.List.{All, filter, flat_map}
use Rattle.std.proofs.lemmas.Bool.{eq-eqb, eqb-true, or_left, or_right}
use Rattle.std.proofs.lemmas.List.Elements.{All-filter, All-map, filter_passes}
use Rattle.beam_values.specs.Grouping.{IsPlainGrouping}
use Rattle.beam_values.specs.Nodes.{HasNoStatefulAbove, is_above, strategy_of}
use Rattle.beam_values.specs.Storable.{IsStorable}
use Rattle.beam_values.specs.declared.cell.Pane.{Pane}
use Rattle.beam_values.specs.declared.element.Element.{Element}
use Rattle.beam_values.specs.declared.file_text.FileText.{FileText}
use Rattle.beam_values.specs.declared.outcome.Outcome.{Outcome}
use Rattle.beam_values.specs.declared.plan.Args.TheVariants.{Nothing}
use Rattle.beam_values.proofs.Bags.{bag_refl, bag_sym, bag_trans}
use Rattle.beam_model.specs.Account.{arrivals_of}
use Rattle.beam_model.specs.Chains.{Arrives, chain}
use Rattle.beam_model.specs.Dead.{items_without}
use Rattle.beam_model.specs.Estimators.{AreSoundAbove}
use Rattle.beam_model.specs.Flow.{elements_at, flow, log_chains, pane_chains}
use Rattle.beam_model.specs.Functions.{emits}
use Rattle.beam_model.specs.Panes.{mark_after, taken_by}
use Rattle.beam_model.specs.Plain.{HasDefaultTriggersAbove, IsPlainAt}
use Rattle.beam_model.specs.Positions.{items}
use Rattle.beam_model.specs.Sides.{IsSidePlain, put_out_of}
use Rattle.beam_model.specs.Spread.{spread_all}
use Rattle.side_inputs.specs.Nodes.{IsSideAt, join_of}
use Rattle.side_inputs.specs.declared.nodes.ViewMode.{ViewMode}
use Rattle.stateful_core.specs.Cells.{logs_of}
use Rattle.book_core.specs.Book.{SeenBook}
use Rattle.book_core.specs.Calls.{IsOutcomeOf}
use Rattle.book_core.specs.Runs.{AreTold, IsThrough, Reached}
use Rattle.book_core.proofs.AllKept.{reached_kept_of}
use Rattle.book_core.proofs.HeldOnce.{All-of_bag}
use Rattle.book_core.proofs.SaneAlways.{reached_sane}
use Rattle.book_core.proofs.Slotted.{All-append_left, All-append_right, All-of_flat_map}
use Rattle.book_core.proofs.Through.{passes_have}
use Rattle.ended_runs.specs.Sides.{AreSidesGivenWhere, IsSideGiven}
use Rattle.ended_runs.specs.Storable.{ArePanesStorable}
use Rattle.ended_runs.proofs.Above.{KnownLaws}
use Rattle.ended_runs.proofs.Ending.{book_flow}
use Rattle.ended_runs.proofs.Grouped.{pane_elements, taken_elements}
use Rattle.ended_runs.proofs.SideChains.{run_arrivals, side_above}
use Rattle.ended_runs.proofs.SidePanes.{side_joined}
use Rattle.ended_runs.proofs.SidePlace.{AreClean, group_ends, groups, is_clean, join_above, join_no_group, join_takes, no_state, sound_join, stateless_join, triggers_join}
use Rattle.ended_runs.proofs.Written.{IsSoundFrom, plain, taken_plain, waited}

-- what a list of panes gives is what their elements give
flat_elements : {X Y : Type 0} (f : X → List Y) (element : Pane → X) (panes : List Pane) → flat_map f (map element panes) ≡ flat_map (λ pane. f (element pane)) panes
flat_elements f element [] = refl
flat_elements f element (pane ∷ panes) = ap (λ (l : List _). f (element pane) ++ l) (flat_elements f element panes)

module _ (laws : KnownLaws) (told : List FileText) (b : SeenBook) (reached : Reached (Some told) b) (lengths : AreTold told b) (through : IsThrough b)
    (storable : All (λ p. IsStorable p.element.value) b.panes) where
  -- ---- no pane is poison

  -- all that flows arrived somewhere
  flow_clean : AreClean (flow b.plan (items_without b.dead (items told b.plan)) b.panes (logs_of b.keys))
  flow_clean =
      let came = arrivals_of b.cells b.dropped (logs_of b.keys) b.written in
      let whole = flow b.plan (items_without b.dead (items told b.plan)) b.panes (logs_of b.keys) in
      let sane = reached_sane (Some told) b reached in
      All-of_bag is_clean (map Arrives came) whole
      (bag_sym whole (map Arrives came) (book_flow told b lengths sane.partitioned sane.formed through (reached_kept_of laws.strategies laws.settings laws.windows told b reached).balanced))
      (All-map (λ output. is_clean output ≡ true) Arrives came (λ k d inside. refl))

  panes_clean : All (λ pane. AreClean (chain b.plan pane.node pane.element)) b.panes
  panes_clean =
      let flows = pane_chains b.plan b.panes in
      let logged = log_chains b.plan (logs_of b.keys) in
      All-of_flat_map (λ output. is_clean output ≡ true) (λ (pane : Pane). chain b.plan pane.node pane.element) b.panes
      (All-append_left (λ output. is_clean output ≡ true) flows logged
      (All-append_right (λ output. is_clean output ≡ true) (spread_all b.plan (items_without b.dead (items told b.plan))) (flows ++ logged) flow_clean))

  -- ---- a side input

  module _ (first main view : ℕ) (mode : ViewMode) (at : IsSideAt b.plan first main view mode)
      (stateless : HasNoStatefulAbove b.plan (first + 3)) (triggers : HasDefaultTriggersAbove b.plan (first + 3)) (sound : AreSoundAbove b.plan (items told b.plan) (first + 3)) where
    -- the join tells of its Group
    from_join : IsSoundFrom laws told b.plan (first + 3) (first + 4)
    from_join = record {
      ends = group_ends b.plan first main view mode at.nodes;
      no_state = no_state b.plan first main view mode at.nodes;
      stateless = stateless;
      no_group_below = join_no_group b.plan first main view mode at.nodes;
      reaches = λ n is. or_right (n == first + 4) (is_above b.plan n (first + 4)) (join_above b.plan first main view mode at.nodes n is);
      sound = record {
        sound = sound_join b.plan first main view mode at.nodes (items told b.plan) sound;
        triggers = triggers_join b.plan first main view mode at.nodes triggers;
        stateless = stateless_join b.plan first main view mode at.nodes stateless;
      };
    }

    group_above : is_above b.plan (first + 3) (first + 4) ≡ true
    group_above =
        join_above b.plan first main view mode at.nodes (first + 3)
        (or_left (first + 3 == first + 3) (is_above b.plan (first + 3) (first + 3)) (eq-eqb (first + 3) (first + 3) refl))

    at_group : IsPlainAt b.plan (items_without b.dead (items told b.plan)) (first + 3) (taken_elements (first + 3) (taken_by b.cells))
    at_group = taken_plain laws told b reached lengths through storable (first + 3) (first + 4) from_join (groups b.plan first main view mode at.nodes)

    grouping : IsPlainGrouping (taken_elements (first + 3) (taken_by b.cells)) (pane_elements (first + 3) b.panes)
    grouping =
        plain laws told b reached lengths through storable (first + 3) (first + 4) from_join (first + 3) (groups b.plan first main view mode at.nodes, group_above)
        (strategy_of b.plan (first + 3)) refl at.unmerged

    -- the join takes each pane
    taken : All (λ pane. emits (join_of mode) Nothing pane ≡ None → ⊥) (pane_elements (first + 3) b.panes)
    taken =
        All-map (λ (e : Element). emits (join_of mode) Nothing e ≡ None → ⊥) (λ (pane : Pane). pane.element) (filter (λ pane. pane.node == first + 3) b.panes)
        (λ k d inside.
        let pane = get_or (filter (λ pane. pane.node == first + 3) b.panes) k d in
        let here : pane.node ≡ first + 3 = eqb-true pane.node (first + 3) (filter_passes (λ (p : Pane). p.node == first + 3) b.panes k d inside) in
        join_takes b.plan first main view mode at.nodes pane.element
        (subst (λ (n : ℕ). AreClean (chain b.plan n pane.element)) here
        (All-filter (λ (p : Pane). p.node == first + 3) (λ (p : Pane). AreClean (chain b.plan p.node p.element)) b.panes panes_clean k d inside)))

    pub book_side : (o : Outcome) → IsSideGiven (items told b.plan) (record o { plan = b.plan; dead = b.dead; panes = b.panes; commits = b.commits }) first main view mode
    book_side o =
        let sources = items_without b.dead (items told b.plan) in
        let arrivals = at_group.0 in
        let fired = at_group.1 in
        let run = at_group.2 in
        let both = side_above b.plan first main view mode at.nodes in
        let mains = put_out_of b.plan sources fired main in
        let views = put_out_of b.plan sources fired view in
        record {
          mains = mains;
          views = views;
          main_input = (both.0, (arrivals, fired, run, bag_refl mains));
          view_input = (both.1, (arrivals, fired, run, bag_refl views));
          joined = subst (IsSidePlain (join_of mode) mains views)
              (flat_elements (λ (e : Element). unwrap_or (emits (join_of mode) Nothing e) []) (λ pane. pane.element) (filter (λ (pane : Pane). pane.node == first + 3) b.panes))
              (side_joined mode (taken_elements (first + 3) (taken_by b.cells)) mains views (pane_elements (first + 3) b.panes)
              (bag_trans (taken_elements (first + 3) (taken_by b.cells)) (elements_at (first + 3) arrivals) _ at_group.3
              (run_arrivals told b.dead b.plan first main view mode arrivals fired at.nodes at.main_before at.view_before run))
              grouping
              (All-map (λ (e : Element). IsStorable e.value) (λ (pane : Pane). pane.element) (filter (λ (pane : Pane). pane.node == first + 3) b.panes)
              (All-filter (λ (pane : Pane). pane.node == first + 3) (λ (pane : Pane). IsStorable pane.element.value) b.panes storable))
              taken);
          waited = λ k d inside here.
              passes_have (λ (pane : Pane). pane.node == first + 3) (λ (pane : Pane). pane.element.span.end ≤ℤ mark_after b.commits (first + 3) pane.commit) b.panes
              (waited laws told b reached lengths through storable (first + 3) (first + 4) from_join (first + 3) (groups b.plan first main view mode at.nodes, group_above))
              k d inside (eq-eqb (get_or b.panes k d).node (first + 3) here);
        }

-- what is said of a book's own lists is said of its outcome
pub outcome_sides : KnownLaws → (told : List FileText) (b : SeenBook) (o : Outcome) → Reached (Some told) b → AreTold told b → IsThrough b → IsOutcomeOf b o → ArePanesStorable o
    → AreSidesGivenWhere (items told b.plan) o
outcome_sides laws told b o reached lengths through of storable =
    let own : record o { plan = b.plan; dead = b.dead; panes = b.panes; commits = b.commits } ≡ o =
    λ i. record o { plan = sym of.plan i; dead = sym of.dead i; panes = sym of.panes i; commits = sym of.commits i } in
    subst (AreSidesGivenWhere (items told b.plan)) own
    (λ first main view mode at stateless triggers sound.
    book_side laws told b reached lengths through (subst (λ (l : List Pane). All (λ p. IsStorable p.element.value) l) of.panes storable) first main view mode at stateless triggers sound o)
