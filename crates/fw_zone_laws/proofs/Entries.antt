-- A zone of a valid configuration with an interface or a source more, and with one less.
use Rattle.std.proofs.Common.{◌≡◌, ◌⊎◌, inl, inr, ℕ, Bool, true, false, if◌then◌else◌, ◌||◌, List, [], ◌∷◌, ◌++◌, Some, Result, Ok, Err, slice_get, slice_set, remove, sym, subst, ◌∙◌, refl}
use Rattle.std.specs.List.{list_any}
use Rattle.std.specs.Str.{bytes_eq}
use Rattle.fw_answer.proofs.Equality as equality
use Rattle.fw_answer.proofs.Items.{IsEquality, is_in_decides}
use Rattle.fw_answer.specs.Equal.{same_source}
use Rattle.fw_answer.specs.Lists.{is_in}
use Rattle.fw_model.specs.declared.binding.Binding.TheVariants as source
use Rattle.fw_model.specs.declared.code.Code.{Code}
use Rattle.fw_model.specs.declared.code.Code.TheVariants as code
use Rattle.fw_model.specs.declared.config.Config.{Config}
use Rattle.fw_model.specs.declared.zone.Zone.{Zone}
use Rattle.fw_valid.specs.Each.{Each}
use Rattle.fw_valid.specs.Names.{ipset_names}
use Rattle.fw_valid.specs.Valid.{IsValid}
use Rattle.fw_valid_edits.proofs.Edited.{each_removed, each_weaker}
use Rattle.fw_valid_edits.proofs.ZoneEdits.{changed_zone, zone_beside}
use Rattle.fw_valid_edits.specs.Fit.{AreFree, IsFitZone, with_zones}
use Rattle.fw_zone.specs.Bindings.{interfaces_of, sources_of}
use Rattle.fw_zone.specs.Lists.{IsIn}
use Rattle.fw_zone_edits.specs.Entries.{bound, lists, unbound, unknown, with_entry, without_entry}
use Rattle.fw_zone_edits.specs.Zones.{Found}
use Rattle.fw_zone_edits.specs.declared.entry.Entry.{Entry}
use Rattle.fw_zone_edits.specs.declared.entry.Entry.TheVariants as entry
use Rattle.fw_zone_laws.proofs.Lists.{in_less, in_more, once_less, once_more}
use Rattle.fw_zone_laws.specs.Entries.{IsEntry, IsSource}

same_zones : (one other : List Zone) (did : Result (List Zone) Code) → did ≡ Ok one → did ≡ Ok other → one ≡ other
same_zones one other did is also = cc

-- where no item of a list passes a test, none of them does
none_of : {A : Type 0} (test : A → Bool) (items : List A) → list_any test items ≡ false → Each (λ item. test item ≡ false) items
none_of test [] none = tt
none_of test (first ∷ others) none = by (test first) refl none (none_of test others)
  where
    by : (b : Bool) → test first ≡ b → (b || list_any test others) ≡ false → (list_any test others ≡ false → Each (λ item. test item ≡ false) others)
        → Each (λ item. test item ≡ false) (first ∷ others)
    by true is none further = cc
    by false is none further = (is, further none)

module _ {A : Type 0} (same : A → A → Bool) (equal : IsEquality same) (of : Zone → List A) where
  -- a test that says that an entry isn't there
  absent : (found : A) (items : List A) → is_in same found items ≡ false → ¬ (IsIn found items)
  absent found items none is_there = let impossible = sym none ∙ (is_in_decides same equal found items).1 is_there in cc

  -- other zones list neither what a zone lists nor one entry more, where none of them lists that
  free_more : (others : List Zone) (zone : Zone) (new : A) → AreFree of others zone → Each (λ other. is_in same new (of other) ≡ false) others
      → (found : A) → IsIn found (of zone ++ new ∷ []) → Each (λ other. ¬ (IsIn found (of other))) others
  free_more others zone new free none found listed = by (in_more found new (of zone) listed)
    where
      by : IsIn found (of zone) ⊎ (new ≡ found) → Each (λ other. ¬ (IsIn found (of other))) others
      by (inl there) = free found there
      by (inr is) =
          each_weaker (λ (other : Zone). is_in same new (of other) ≡ false) (λ (other : Zone). ¬ (IsIn found (of other))) others
          (λ other not_there there. absent new (of other) not_there (subst (λ one. IsIn one (of other)) (sym is) there)) none

module _ (config : Config) (found : Found) (valid : IsValid config) (at : slice_get config.zones found.place ≡ Some found.zone) where
  abbrev others : List Zone
  others = remove config.zones found.place

  fit : IsFitZone config others found.zone
  fit = zone_beside config found.place found.zone valid at

  -- no other zone lists it
  none_lists : (one : Entry) → list_any (lists one) config.zones ≡ false → Each (λ other. lists one other ≡ false) others
  none_lists one none = each_removed (λ other. lists one other ≡ false) config.zones found.place (none_of (lists one) config.zones none)

  with_entry_valid : (one : Entry) → IsEntry config one → lists one found.zone ≡ false → list_any (lists one) config.zones ≡ false
      → IsValid (with_zones config (slice_set config.zones found.place (with_entry found.zone one)))
  with_entry_valid (entry.Interface name) known apart none =
      changed_zone config found.place found.zone (with_entry found.zone (entry.Interface name)) valid at refl (record {
        rules = fit.rules;
        sets = fit.sets;
        interfaces_once = once_more found.zone.interfaces name fit.interfaces_once (absent bytes_eq equality.texts interfaces_of name found.zone.interfaces apart);
        sources_once = fit.sources_once;
        interfaces_free = free_more bytes_eq equality.texts interfaces_of others found.zone name fit.interfaces_free (none_lists (entry.Interface name) none);
        sources_free = fit.sources_free;
      })
  with_entry_valid (entry.Source new) known apart none =
      changed_zone config found.place found.zone (with_entry found.zone (entry.Source new)) valid at refl (record {
        rules = fit.rules;
        sets = λ name there. by name (in_more (source.Set name) new found.zone.sources there);
        interfaces_once = fit.interfaces_once;
        sources_once = once_more found.zone.sources new fit.sources_once (absent same_source equality.sources sources_of new found.zone.sources apart);
        interfaces_free = fit.interfaces_free;
        sources_free = free_more same_source equality.sources sources_of others found.zone new fit.sources_free (none_lists (entry.Source new) none);
      })
    where
      by : (name : List ℕ) → IsIn (source.Set name) found.zone.sources ⊎ (new ≡ source.Set name) → IsIn name (ipset_names config)
      by name (inl there) = fit.sets name there
      by name (inr is) = subst (IsSource config) is known

  without_entry_valid : (one : Entry) → IsValid (with_zones config (slice_set config.zones found.place (without_entry found.zone one)))
  without_entry_valid (entry.Interface name) =
      changed_zone config found.place found.zone (without_entry found.zone (entry.Interface name)) valid at refl (record {
        rules = fit.rules;
        sets = fit.sets;
        interfaces_once = once_less bytes_eq found.zone.interfaces name fit.interfaces_once;
        sources_once = fit.sources_once;
        interfaces_free = λ one there. fit.interfaces_free one (in_less bytes_eq one name found.zone.interfaces there);
        sources_free = fit.sources_free;
      })
  without_entry_valid (entry.Source gone) =
      changed_zone config found.place found.zone (without_entry found.zone (entry.Source gone)) valid at refl (record {
        rules = fit.rules;
        sets = λ name there. fit.sets name (in_less same_source (source.Set name) gone found.zone.sources there);
        interfaces_once = fit.interfaces_once;
        sources_once = once_less same_source found.zone.sources gone fit.sources_once;
        interfaces_free = fit.interfaces_free;
        sources_free = λ one there. fit.sources_free one (in_less same_source one gone found.zone.sources there);
      })

  pub bound_valid : (one : Entry) (zones : List Zone) → IsEntry config one → bound config.zones found one ≡ Ok zones → IsValid (with_zones config zones)
  unfolding bound
  bound_valid one zones known is = by (lists one found.zone) refl (list_any (lists one) config.zones) refl is
    where
      by : (here : Bool) → lists one found.zone ≡ here → (anywhere : Bool) → list_any (lists one) config.zones ≡ anywhere
          → (if here then Err code.ZoneAlreadySet else (if anywhere then Err code.ZoneConflict else Ok (slice_set config.zones found.place (with_entry found.zone one)))) ≡ Ok zones
          → IsValid (with_zones config zones)
      by true here_is anywhere anywhere_is is = cc
      by false here_is true anywhere_is is = cc
      by false here_is false anywhere_is is = subst (λ zones. IsValid (with_zones config zones)) (same_zones _ zones _ refl is) (with_entry_valid one known here_is anywhere_is)

  pub unbound_valid : (one : Entry) (zones : List Zone) → unbound config.zones found one ≡ Ok zones → IsValid (with_zones config zones)
  unfolding unbound
  unbound_valid one zones is = by (lists one found.zone) (list_any (lists one) config.zones) is
    where
      by : (here anywhere : Bool)
          → (if here then Ok (slice_set config.zones found.place (without_entry found.zone one)) else (if anywhere then Err code.ZoneConflict else Err (unknown one))) ≡ Ok zones
          → IsValid (with_zones config zones)
      by true anywhere is = subst (λ zones. IsValid (with_zones config zones)) (same_zones _ zones _ refl is) (without_entry_valid one)
      by false true is = cc
      by false false is = cc
