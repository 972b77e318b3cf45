-- The effect of code 4: firmware is staged or made current, and no phy, row, counter or disk is touched. Assumes nothing.
use mathlib.Core.Path.{◌≡◌, refl, sym, ◌∙◌}
use mathlib.Core.Bool.{true}
use mathlib.Core.List.{List}
use Prim.Native.Nat.{ℕ}
use native.Mathlib.Omega.{arith}
use lib.ListN.{length}
use borrow.Author.Tests.{ne_eqb}
use Rattle.codes.specs.Codes.{firmware_download, set_phy_info, stp_passthru, success}
use Rattle.adapter.specs.Staged.{Staged, staged_holds}
use Rattle.adapter.specs.Adapter.{Adapter, with_firmware, made_current}
use Rattle.firmware.specs.Firmware.{stage_size, Downloaded, load_firmware, validated, committed}
use Rattle.firmware.proofs.Laws.{download_by, stage_long}
use Rattle.staged.proofs.Laws.{staged_noted, staged_none}
use Rattle.state.specs.State.{adapter_holds}
use Rattle.service.specs.Serve.{Store, with_stage, downloaded}
use Rattle.claims.specs.LastWriter.{Told, sector_writer, rate_writer}
use Rattle.claims.specs.SpinUp.{spinup_writer}
use Rattle.claims.proofs.Moved.{moved_firmware, firmware_holds}
use Rattle.claims.proofs.Effect.{OnTables, OnStore, Does, selects_in, quiet_other, no_effect}

-- other firmware staged or running: what is written of a phy stays
firmware_tables : (ad : Adapter) (t : Told) (controller : List ℕ) (staged : Staged) → (t.control ≡ set_phy_info → ⊥) → staged_holds staged ≡ true
    → OnTables ad t (with_firmware ad controller staged)
unfolding with_firmware
firmware_tables ad t controller staged c s =
    record {
      moved = moved_firmware ad controller staged;
      holds = λ h. firmware_holds ad h controller staged s;
      minima = λ n. sym (quiet_other (rate_writer 2) t c n _);
      maxima = λ n. sym (quiet_other (rate_writer 3) t c n _);
      spinup = λ n. sym (quiet_other spinup_writer t c n _);
    }

-- another stage of the same length
stage_store : (ad : Adapter) (t : Told) (store : Store) (stage : List ℕ) → (t.control ≡ stp_passthru → ⊥) → length stage ≡ length store.stage
    → OnStore ad t store (with_stage store stage)
stage_store ad t store stage c e = record { size = refl; stage = e; sectors = λ s. sym (quiet_other (sector_writer (selects_in ad)) t c s _) }

pub download_effect : (ad : Adapter) (store : Store) (body : List ℕ) → adapter_holds ad ≡ true → length store.stage ≡ stage_size
    → Does ad store firmware_download body (downloaded store (load_firmware ad store.stage body))
unfolding validated committed made_current
download_effect ad store body h e =
    download_by ad store.stage body
    (λ (d : Downloaded). length d.stage ≡ stage_size → Does ad store firmware_download body (downloaded store d))
    (λ code o _. record { small = o.1.0; effect = no_effect ad _ store (ne_eqb code success o.0) })
    (λ _ _ _ l. record {
      small = omega arith;
      effect = record {
        tables = firmware_tables ad _ _ _ (λ q. omega arith) (staged_noted _);
        store = stage_store ad _ store _ (λ q. omega arith) (l ∙ sym e);
      };
    })
    (λ _ _ _ l. record {
      small = omega arith;
      effect = record {
        tables = firmware_tables ad _ _ _ (λ q. omega arith) staged_none;
        store = stage_store ad _ store _ (λ q. omega arith) refl;
      };
    })
    (stage_long ad store.stage body e)
