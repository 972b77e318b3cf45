-- The proof of what is claimed of firmware. Assumes nothing.
use mathlib.Core.Path.{◌≡◌, refl, sym, ◌∙◌, ap, ap₂}
use mathlib.Core.Bool.{Bool, false, cond, false≢true}
use mathlib.Core.List.{List, ◌++◌}
use Prim.Native.Nat.{ℕ, ◌≤◌}
use native.Mathlib.Omega.{arith}
use lib.Dec.{eqb}
use lib.ListN.{length, take, drop, take-append-drop}
use borrow.Author.Tests.{eq-eqb, ne_eqb}
use Rattle.laws.specs.Choice.{by_bool}
use Rattle.laws.specs.Runs.{log, by_log, fold_shown}
use Rattle.codes.specs.Codes.{firmware_download, set_phy_info, get_link_errors, stp_passthru, success}
use Rattle.download.specs.Body.{validates}
use Rattle.adapter.specs.Adapter.{Adapter, with_phy, with_firmware, made_current}
use Rattle.adapter.specs.Changed.{Changed}
use Rattle.firmware.specs.Firmware.{Downloaded, downloads, beside_stage, load_firmware, validated, committed, validation, buffer_length_holds, image_sound}
use Rattle.firmware.proofs.Laws.{download_by}
use Rattle.state.specs.State.{State, state_with}
use Rattle.service.specs.Serve.{Store, store_of, Served, changed, downloaded, served}
use Rattle.header.specs.Form.{behind_header, with_code}
use Rattle.header.proofs.FormLaws.{body_shown_lem}
use Rattle.header.proofs.SentLaws.{form_room}
use Rattle.header.specs.Sent.{Request, form_of, control_of, body_of, checks_code}
use Rattle.dispatch.specs.Request.{Point, point, Outcome, call_number, served_request, refused_request, answered, replied, answered_at, handled}
use Rattle.claims.specs.Run.{Exchange, Entry, exchange_of, step, entry_of}
use Rattle.claims.specs.LastWriter.{Told, told_by}
use Rattle.claims.specs.Firmware.{firmware_at, with_firmware_at, firmware_after, FirmwareReply, SameButStage, FirmwareClaim}
use Rattle.claims.proofs.Steps.{alike}
use Rattle.claims.proofs.Ways.{served_by, reply_with, handled_by, told_of, told_number, told_refused, told_served}
use Rattle.claims.proofs.PhyEffects.{set_by, errors_by}
use Rattle.claims.proofs.FirmwareNone.{none_refused, none_other}
use Rattle.claims.proofs.FirmwareOpening.{opened_none}

-- ---- a request

-- another control code is not that of firmware
another : (control code : ℕ) → control ≡ code → (code ≡ firmware_download → ⊥) → control ≡ firmware_download → ⊥
another control code e n h = n (sym e ∙ h)

module _ (p : Point) (r : Request) where
  abbrev ad : Adapter
  ad = p.state.adapter

  abbrev store : Store
  store = p.store

  abbrev body : List ℕ
  body = body_of r

  -- of what it left
  abbrev Left : Outcome → Type 0
  Left o = firmware_at o.point ≡ firmware_after (told_by (exchange_of r o)) (firmware_at p)

  -- code 4
  download_left : (form_of r).size ≤ length r.buffer → control_of r ≡ firmware_download → Left (reply_with p r (downloaded store (load_firmware ad store.stage body)))
  unfolding firmware_after validated committed made_current with_firmware
  download_left long e =
      download_by ad store.stage body (λ (d : Downloaded). Left (reply_with p r (downloaded store d)))
      (λ code o. let x : Served = downloaded store (downloads code ad store.stage body) in
      rw (told_served p r x o.1.0 long) (none_refused (told_of (control_of r) body x) (firmware_at p) (ne_eqb code success o.0)))
      (λ v _ _. rw (told_served p r (downloaded store (validated ad store.stage body)) (omega arith) long, eq-eqb (control_of r) firmware_download e, v) refl)
      (λ v _ _. rw (told_served p r (downloaded store (beside_stage store.stage (committed ad body))) (omega arith) long, eq-eqb (control_of r) firmware_download e, v) refl)

  served_left : (form_of r).size ≤ length r.buffer → Left (reply_with p r (served ad store (control_of r) body))
  unfolding told_by with_phy
  served_left long =
      served_by ad store (control_of r) body (λ (x : Served). Left (reply_with p r x))
      (λ e. set_by ad body (λ (c : Changed). Left (reply_with p r (changed store c))) (λ _ _ _. none_other _ _ (another _ set_phy_info e (λ q. omega arith)))
      (λ _ _. none_other _ _ (another _ set_phy_info e (λ q. omega arith))))
      (λ e. errors_by ad body (λ (c : Changed). Left (reply_with p r (changed store c))) (λ _ _ _. none_other _ _ (another _ get_link_errors e (λ q. omega arith)))
      (λ _ _. none_other _ _ (another _ get_link_errors e (λ q. omega arith))) (λ _. none_other _ _ (another _ get_link_errors e (λ q. omega arith))))
      (λ e. none_other _ _ (another _ stp_passthru e (λ q. omega arith)))
      (download_left long)
      (λ _ _ _ n. none_other _ _ n)

  request_left : Left (handled p r)
  request_left =
      handled_by p r Left (λ call h. none_refused _ _ (told_number p r call h)) (λ code h k long. none_refused _ _ (told_refused p r code h k long))
      (λ _ long _. served_left long)

  -- of a code 4: nothing else
  abbrev Only : Outcome → Type 0
  Only o = o.point ≡ with_firmware_at p (firmware_at o.point)

  served_only : control_of r ≡ firmware_download → Only (reply_with p r (served ad store (control_of r) body))
  unfolding served validated committed made_current with_firmware
  served_only e =
      rw e (download_by ad store.stage body (λ (d : Downloaded). Only (reply_with p r (downloaded store d))) (λ _ _. refl) (λ _ _ _. refl) (λ _ _ _. refl))

  request_only : control_of r ≡ firmware_download → Only (handled p r)
  unfolding with_firmware
  request_only e = handled_by p r Only (λ _ _. refl) (λ _ _ _ _. refl) (λ _ _ _. served_only e)

  -- what it asks, and the body of its reply
  abbrev Asked : Outcome → Type 0
  Asked o = FirmwareReply p r (told_by (exchange_of r o))

  -- of what is refused, which leaves the body
  asked_refused : (t : Told) → t.granted ≡ false → t.body ≡ body → t.reply ≡ body → FirmwareReply p r t
  asked_refused t g b e = record { asked = λ h. absurd (false≢true (sym g ∙ h)); body = rw (g, b) e }

  served_asked : (form_of r).size ≤ length r.buffer → control_of r ≡ firmware_download → Asked (reply_with p r (served ad store (control_of r) body))
  unfolding served validated committed
  served_asked long e =
      rw e
      (download_by ad store.stage body (λ (d : Downloaded). Asked (reply_with p r (downloaded store d)))
      (λ code o. let x : Served = downloaded store (downloads code ad store.stage body) in
      rw (told_served p r x o.1.0 long) (asked_refused (told_of (control_of r) body x) (ne_eqb code success o.0) refl refl))
      (λ v l s. rw (told_served p r (downloaded store (validated ad store.stage body)) (omega arith) long) (record { asked = λ _. (l, rw v s); body = refl }))
      (λ v l f. rw (told_served p r (downloaded store (beside_stage store.stage (committed ad body))) (omega arith) long) (record { asked = λ _. (l, rw v f); body = refl })))

  refused_shown : (code : ℕ) → (form_of r).size ≤ length r.buffer → behind_header (form_of r) (with_code (form_of r) r.buffer code) ≡ body
  refused_shown code long =
      ap (λ (b : List ℕ). behind_header (form_of r) (with_code (form_of r) b code)) (sym (take-append-drop (form_of r).size r.buffer))
      ∙ body_shown_lem (form_of r) (form_room r) r.buffer (drop (form_of r).size r.buffer) long code

  request_asked : control_of r ≡ firmware_download → Asked (handled p r)
  unfolding told_by
  request_asked e =
      handled_by p r Asked (λ call h. asked_refused _ (told_number p r call h) refl refl)
      (λ code h k long. asked_refused _ (told_refused p r code h k long) refl (refused_shown code long))
      (λ _ long _. served_asked long e)

-- ---- the stage is not read

-- what code 4 leaves but for the stage
record SameDownload (x y : Downloaded) : Type 0 where
  code : x.code ≡ y.code
  adapter : x.adapter ≡ y.adapter
  body : x.body ≡ y.body

download_same : (ad : Adapter) (stage other body : List ℕ) → SameDownload (load_firmware ad stage body) (load_firmware ad other body)
unfolding load_firmware validation validated
download_same ad stage other body =
    alike SameDownload (buffer_length_holds body)
    (λ _. alike SameDownload (validates body)
    (λ _. alike SameDownload (image_sound body) (λ _. record { code = refl; adapter = refl; body = refl }) (record { code = refl; adapter = refl; body = refl }))
    (record { code = refl; adapter = refl; body = refl }))
    (record { code = refl; adapter = refl; body = refl })

record SameServed (x y : Served) : Type 0 where
  code : x.code ≡ y.code
  adapter : x.adapter ≡ y.adapter
  medium : x.store.medium ≡ y.store.medium
  body : x.body ≡ y.body

served_same : (ad : Adapter) (medium stage other : List ℕ) (control : ℕ) (body : List ℕ)
    → SameServed (served ad (store_of medium stage) control body) (served ad (store_of medium other) control body)
unfolding served
served_same ad medium stage other control body =
    alike SameServed (eqb control set_phy_info) (λ _. same)
    (alike SameServed (eqb control get_link_errors) (λ _. same)
    (alike SameServed (eqb control stp_passthru) (λ _. same)
    (alike SameServed (eqb control firmware_download)
    (λ _. let d = download_same ad stage other body in record { code = d.code; adapter = d.adapter; medium = refl; body = d.body }) same)))
  where
    same : {x : Served} {s : List ℕ} → SameServed x (record { code = x.code; adapter = x.adapter; store = store_of x.store.medium s; body = x.body })
    same = record { code = refl; adapter = refl; medium = refl; body = refl }

module _ (s : State) (medium stage other : List ℕ) (r : Request) where
  abbrev one : Point
  one = point s (store_of medium stage)

  abbrev two : Point
  two = point s (store_of medium other)

  answered_same : SameButStage (answered_at one r) (answered_at two r)
  unfolding answered_at answered
  answered_same =
      let x = served_same s.adapter medium stage other (control_of r) (body_of r) in
      by_bool (λ (b : Bool). SameButStage (reply_or b one) (reply_or b two))
      (record {
        call = refl;
        state = ap (λ (ad : Adapter). state_with s.level ad) x.adapter;
        medium = x.medium;
        buffer = ap₂ (λ (code : ℕ) (b : List ℕ). with_code (form_of r) (take (form_of r).size r.buffer ++ b) code) x.code x.body;
      })
      (record { call = refl; state = refl; medium = refl; buffer = refl })
      (eqb (checks_code s.level r) success)
    where
      -- served, or refused by the checks up to the level
      reply_or : Bool → Point → Outcome
      reply_or b p =
          replied (form_of r) s.level
          (cond b (served_request s.adapter p.store r) (refused_request (checks_code s.level r) s.adapter p.store r))

  handled_same : length stage ≡ length other → SameButStage (handled one r) (handled two r)
  unfolding handled
  handled_same e =
      rw e (alike SameButStage (eqb (call_number two r) 0) (λ _. answered_same) (record { call = refl; state = refl; medium = refl; buffer = refl }))

-- ---- the claim

pub firmware_claim : FirmwareClaim
firmware_claim =
    record {
      written = request_left;
      only = request_only;
      replied = request_asked;
      runs = λ p requests.
          by_log step entry_of (λ (q : Point). q ≡ q) (λ _ _ _. refl) firmware_at (λ (e : Entry). firmware_after (told_by e.exchange)) (λ q r _. request_left q r) p requests refl
          ∙ sym (fold_shown (λ (x : Exchange). firmware_after (told_by x)) (λ (e : Entry). e.exchange) (firmware_at p) (log step entry_of p requests));
      unread = handled_same;
      opening = opened_none;
    }
