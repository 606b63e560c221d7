use Rattle.std.proofs.Common.{List, length, drop, refl, sym, ap, subst, ◌∙◌, arith}
use denote.Param.Send.{arg_send, param_send, sendable}
use denote.Exit.{no, yes}
use Rattle.std.proofs.lemmas.List.{length-map}
use Rattle.std.proofs.lemmas.Result.{IfErr-weaker, IfOk-weaker, err_from_is_err_and}
use Rattle.beam_values.specs.declared.piece.Piece.{Piece}
use Rattle.bundle_work.specs.Pairs.{AreBoth, EachPairBecomes}
use Rattle.bundle_work.proofs.Answered.{kit_same}
use Rattle.combine_plan.specs.Hands.{CanFold, HasSat, hands_of}
use Rattle.combine_plan.specs.declared.crew.Seat.{Seat}
use Rattle.combine_plan.proofs.Crossing.{Partials-send, Seat-send, call_sync}
use Rattle.combine_plan.proofs.Seats.{both_length, both_of, crew_folded, crew_refused, crew_unjoined, each_pair_so, each_same, kits_kept, pairs_length, sits_as, take_front}
use Rattle.combine_plan.proofs.crew.fold_hands.Goals as goal

pub returns-in_err-seats-clause-kept : goal.returns-in_err-seats-clause-kept
returns-in_err-seats-clause-kept g c =
    each_same _ (λ kit. (refl, kit_same g.F.Shelf.faults g.F.Shelf.strict g.S.Store.faults g.S.Store.files g.S.Store.opened kit.shelf kit.store)) c.args.kits.now

pub each_pair-requires-send-T : goal.each_pair-requires-send-T
each_pair-requires-send-T g c κs within = param_send 2 _ (arg_send _ yes _ (Seat-send _ (Partials-send _ _ g.C.Combiner c.type_bounds.send-C c.type_bounds.send-C-Acc)))

pub each_pair-requires-sync-J : goal.each_pair-requires-sync-J
each_pair-requires-sync-J g c κs within = call_sync _ _ _ _ _ _ _ _ c.type_bounds.sync-C

pub each_pair-requires-clause-lengths : goal.each_pair-requires-clause-lengths
each_pair-requires-clause-lengths g c κs within =
    let seats = c.in_ok-seats.seats.items in
    let dealt = ap length c.in_ok-seats.ensures in
    let same = ap length c.as_mut_slice.ensures.value in
    let both = both_length (CanFold g.S.Store.files g.S.Store.opened c.args.graph.now) c.args.kits.now c.args.hands.items c.requires.hands in
    omega (arith, same, dealt, both, length-map seats (λ (s : Seat _). s.hand))

pub each_pair-requires-clause-accepts : goal.each_pair-requires-clause-accepts
each_pair-requires-clause-accepts g c κs within =
    let plan = c.args.graph.now in
    let fits = CanFold g.S.Store.files g.S.Store.opened plan in
    let hands = sym c.in_ok-seats.ensures ∙ ap hands_of (sym c.as_mut_slice.ensures.value) in
    both_of fits _ (λ (s : Seat _). s.hand) (λ kit seat can s k at_s at_k.
    ((c.requires.allowed, subst (λ (k' : _). fits k' s.now.hand) (sym at_k) (subst (λ (s' : Seat _). fits kit s'.hand) (sym at_s) can)), (search (c.type_bounds.send-C, sendable) depth 40, param_send 1 _ (arg_send _ no _ c.type_bounds.send-F), param_send 2 _ (arg_send _ no _ c.type_bounds.send-S), param_send 3 _ (arg_send _ no _ c.type_bounds.send-C-Acc), search (c.type_bounds.sync-C, sendable) depth 40))) _ _
    (subst (λ (l : List (List Piece)). AreBoth fits c.args.kits.now l) hands c.requires.hands)

pub returns-in_err-refusal_in-clause-refused : goal.returns-in_err-refusal_in-clause-refused
returns-in_err-refusal_in-clause-refused g c =
    let strict = g.F.Shelf.strict in
    let faults = g.F.Shelf.faults in
    let files = g.S.Store.files in
    let fails = g.S.Store.faults in
    let opened = g.S.Store.opened in
    let stands = g.C.Combiner.stands in
    let takes = g.C.Combiner.takes in
    let plan = c.args.graph.now in
    let attempts = c.args.options.now.attempts in
    let kits = c.args.kits.now in
    let later = c.each_pair.new.kits in
    let seats = c.as_mut_slice.result.now in
    let left = c.each_pair.new.seats in
    let sat =
    each_pair_so _ (EachPairBecomes (HasSat strict faults files fails opened stands takes plan attempts)) tt
    (λ k k' s t ks ks' ss ts h rest. (sits_as strict faults files fails opened stands takes plan attempts _ k _ k' _ s _ t h.k_is h.k_left h.s_is h.s_left h.call, rest)) kits later seats left
    c.each_pair.ensures in
    let dealt = ap hands_of c.as_mut_slice.ensures.value ∙ c.in_ok-seats.ensures in
    let front =
    take_front left (drop (length left) c.in_ok-seats.seats.items) c.in_ok-seats.seats.len
    (sym c.as_mut_slice.ensures.len ∙ sym (pairs_length (HasSat strict faults files fails opened stands takes plan attempts) kits later seats left sat)) in
    let p = err_from_is_err_and c.from_residual-in_err-refusal_in.result c.from_residual-in_err-refusal_in.ensures.1 in
    rw (p.1, p.2)
    (crew_refused strict faults files fails opened stands takes plan attempts kits later seats left sat c.args.hands.items dealt c.as_slice.result.now (c.as_slice.ensures.value ∙ front)
    c.in_err-refusal_in.field-0.0 c.in_err-refusal_in.ensures)

pub returns-in_err-refusal_in-clause-kept : goal.returns-in_err-refusal_in-clause-kept
returns-in_err-refusal_in-clause-kept g c =
    let strict = g.F.Shelf.strict in
    let faults = g.F.Shelf.faults in
    let files = g.S.Store.files in
    let fails = g.S.Store.faults in
    let opened = g.S.Store.opened in
    let stands = g.C.Combiner.stands in
    let takes = g.C.Combiner.takes in
    let plan = c.args.graph.now in
    let attempts = c.args.options.now.attempts in
    let kits = c.args.kits.now in
    let later = c.each_pair.new.kits in
    let seats = c.as_mut_slice.result.now in
    let left = c.each_pair.new.seats in
    let sat =
    each_pair_so _ (EachPairBecomes (HasSat strict faults files fails opened stands takes plan attempts)) tt
    (λ k k' s t ks ks' ss ts h rest. (sits_as strict faults files fails opened stands takes plan attempts _ k _ k' _ s _ t h.k_is h.k_left h.s_is h.s_left h.call, rest)) kits later seats left
    c.each_pair.ensures in
    kits_kept strict faults files fails opened stands takes plan attempts kits later seats left sat

pub returns-clause-folded : goal.returns-clause-folded
returns-clause-folded g c =
    let strict = g.F.Shelf.strict in
    let faults = g.F.Shelf.faults in
    let files = g.S.Store.files in
    let fails = g.S.Store.faults in
    let opened = g.S.Store.opened in
    let stands = g.C.Combiner.stands in
    let takes = g.C.Combiner.takes in
    let plan = c.args.graph.now in
    let attempts = c.args.options.now.attempts in
    let kits = c.args.kits.now in
    let later = c.each_pair.new.kits in
    let seats = c.as_mut_slice.result.now in
    let left = c.each_pair.new.seats in
    let sat =
    each_pair_so _ (EachPairBecomes (HasSat strict faults files fails opened stands takes plan attempts)) tt
    (λ k k' s t ks ks' ss ts h rest. (sits_as strict faults files fails opened stands takes plan attempts _ k _ k' _ s _ t h.k_is h.k_left h.s_is h.s_left h.call, rest)) kits later seats left
    c.each_pair.ensures in
    let dealt = ap hands_of c.as_mut_slice.ensures.value ∙ c.in_ok-seats.ensures in
    let front =
    take_front left (drop (length left) c.in_ok-seats.seats.items) c.in_ok-seats.seats.len
    (sym c.as_mut_slice.ensures.len ∙ sym (pairs_length (HasSat strict faults files fails opened stands takes plan attempts) kits later seats left sat)) in
    IfOk-weaker c.join_all.result _ _ (crew_folded strict faults files fails opened stands takes plan attempts kits later seats left sat c.args.hands.items dealt _ front) c.join_all.ensures.joined

pub returns-clause-refused : goal.returns-clause-refused
returns-clause-refused g c =
    let strict = g.F.Shelf.strict in
    let faults = g.F.Shelf.faults in
    let files = g.S.Store.files in
    let fails = g.S.Store.faults in
    let opened = g.S.Store.opened in
    let stands = g.C.Combiner.stands in
    let takes = g.C.Combiner.takes in
    let plan = c.args.graph.now in
    let attempts = c.args.options.now.attempts in
    let kits = c.args.kits.now in
    let later = c.each_pair.new.kits in
    let seats = c.as_mut_slice.result.now in
    let left = c.each_pair.new.seats in
    let sat =
    each_pair_so _ (EachPairBecomes (HasSat strict faults files fails opened stands takes plan attempts)) tt
    (λ k k' s t ks ks' ss ts h rest. (sits_as strict faults files fails opened stands takes plan attempts _ k _ k' _ s _ t h.k_is h.k_left h.s_is h.s_left h.call, rest)) kits later seats left
    c.each_pair.ensures in
    let dealt = ap hands_of c.as_mut_slice.ensures.value ∙ c.in_ok-seats.ensures in
    let front =
    take_front left (drop (length left) c.in_ok-seats.seats.items) c.in_ok-seats.seats.len
    (sym c.as_mut_slice.ensures.len ∙ sym (pairs_length (HasSat strict faults files fails opened stands takes plan attempts) kits later seats left sat)) in
    IfErr-weaker c.join_all.result _ _ (crew_unjoined strict faults files fails opened stands takes plan attempts kits later seats left sat c.args.hands.items dealt _ front) c.join_all.ensures.unjoined

pub returns-clause-kept : goal.returns-clause-kept
returns-clause-kept g c =
    let strict = g.F.Shelf.strict in
    let faults = g.F.Shelf.faults in
    let files = g.S.Store.files in
    let fails = g.S.Store.faults in
    let opened = g.S.Store.opened in
    let stands = g.C.Combiner.stands in
    let takes = g.C.Combiner.takes in
    let plan = c.args.graph.now in
    let attempts = c.args.options.now.attempts in
    let kits = c.args.kits.now in
    let later = c.each_pair.new.kits in
    let seats = c.as_mut_slice.result.now in
    let left = c.each_pair.new.seats in
    let sat =
    each_pair_so _ (EachPairBecomes (HasSat strict faults files fails opened stands takes plan attempts)) tt
    (λ k k' s t ks ks' ss ts h rest. (sits_as strict faults files fails opened stands takes plan attempts _ k _ k' _ s _ t h.k_is h.k_left h.s_is h.s_left h.call, rest)) kits later seats left
    c.each_pair.ensures in
    kits_kept strict faults files fails opened stands takes plan attempts kits later seats left sat
