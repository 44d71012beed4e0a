-- Records of a window, as what is known of their ticks.
use Rattle.std.proofs.Common.{◌≡◌, ◌<◌, ℕ, List, length, map, slice_get, slice_index_or, Some, sym, ap, ◌∙◌, arith, option_map}
use Rattle.std.proofs.lemmas.List.{length-map}
use Rattle.std.proofs.lemmas.Option.{slice_get-get_or, slice_get-map}
use Rattle.trajectory_estimator.specs.Asked.{entry_of}
use Rattle.trajectory_estimator.specs.declared.record.Record.{Record}
use Rattle.window_laws.specs.Trajectories.{Entry}

-- the entry of a record that is read
pub entry_at : (records : List Record) (entries : List Entry) (at : ℕ) (d : Record) → map entry_of records ≡ entries → at < length entries → slice_get entries at ≡ Some (entry_of (slice_index_or records at d))
entry_at records entries at d e within =
    let inside : at < length records = omega (arith, within, ap length e, length-map records entry_of) in
    ap (λ l. slice_get l at) (sym e) ∙ slice_get-map entry_of records at ∙ ap (option_map entry_of) (slice_get-get_or records at d inside)

-- a record stands where its entry does
pub record_within : (records : List Record) (entries : List Entry) (at : ℕ) → map entry_of records ≡ entries → at < length records → at < length entries
record_within records entries at e within = omega (arith, ap length e, length-map records entry_of, within)
