-- The ways in which a payload is read as a message.
-- Assumes nothing.
use Rattle.std.specs.Prelude.{Option, Some, None}
use Prim.Native.Nat.{ℕ, ◌-◌, ◌≤◌}
use mathlib.Core.Bool.{and-eq-true_iff}
use mathlib.Core.Path.{◌≡◌, refl, sym, subst}
use mathlib.Core.List.{List, [], ◌∷◌}
use mathlib.Core.Bool.{Bool, true, false, cond, ◌&&◌}
use lib.Dec.{leb, ltb, eqb}
use lib.ListN.{length, drop}
use borrow.Author.Tests.{leb-true, eqb-true}
use Rattle.settings.specs.List.{is_list}
use Rattle.message.specs.Number.{byte_at, word_at, long_at}
use Rattle.message.specs.Address.{is_plain, is_extended}
use Rattle.message.specs.Meaning.{Meaning, refused, carrying, bare}
use Rattle.message.specs.Options.{Opted, bad, opted, option, options_from, no_options}
use Rattle.message.specs.ToModule.{Order, change, setup, read_to_module, to_itself, to_address, to_plain_address, to_extended_address, request_at, request_as, output_change_at, command_as}
use Rattle.message.specs.FromModule.{read_from_module, sender_meaning, status_meaning, standard_meaning, remote_meaning, reception_meaning}
use Rattle.message.specs.FromModule.{from_itself, response_meaning, ack_meaning, information_meaning, settings_meaning, control_meaning}
use Rattle.message.specs.Setup.{command_number, named, commands, command_of, information_at}
use Rattle.message.specs.Status.{standard_at, remote_at}
use Rattle.message.specs.declared.options.Options.{Options}
use Rattle.message.specs.declared.setup.SetupCommand.{SetupCommand}
use Rattle.message.specs.declared.setup.SetupReport.TheVariants.{Acknowledged, Information as IsInformation, SettingsFailed, SilentMode}
use Rattle.message.specs.declared.to_module.Address.{Address}
use Rattle.message.specs.declared.to_module.Address.TheVariants.{Plain, Extended as ExtendedAddress}
use Rattle.message.specs.declared.to_module.Request.{Request}
use Rattle.message.specs.declared.to_module.Request.TheVariants.{Simple as SimpleRequest, Extended as ExtendedRequest, Settings as SettingsRequest}
use Rattle.message.specs.declared.from_module.Delivery.{Delivery}
use Rattle.message.specs.declared.from_module.Delivery.TheVariants.{Simple as SimpleDelivery, Extended as ExtendedDelivery, Settings as SettingsDelivery}
use Rattle.message.specs.declared.from_module.Outcome.TheVariants.{Failure, Success}
use Rattle.message.specs.declared.from_module.Notice.{Notice}
use Rattle.message.specs.declared.from_module.Notice.TheVariants.{Response as IsResponse, Standard, Remote, Setup}
use Rattle.message.proofs.Numbers.{choose}
use Rattle.message.proofs.OptionStrings.{Encoded, encoded}

module _ {A B : Type 0} where
  -- It is a message.
  abbrev pub IsMessage : Meaning A B → Type 0
  IsMessage (refused n) = ⊥
  IsMessage (carrying m start) = Unit {0}
  IsMessage (bare m) = Unit {0}

  -- Reading gave a message, so it was not refused.
  read_on : (t : Bool) (n : ℕ) {x r : Meaning A B} → cond t x (refused n) ≡ r → IsMessage r → (t ≡ true) × (x ≡ r)
  read_on true n e i = (refl, e)
  read_on false n e i = absurd (subst IsMessage (sym e) i)

-- Reading gave a message, so the length is 2 to 256.
in_range : {A B : Type 0} (n : ℕ) {x r : Meaning A B} → cond (leb 2 n && leb n 256) x (refused 7) ≡ r → IsMessage r →
    (2 ≤ n) × (n ≤ 256) × (x ≡ r)
in_range n e i =
    let on = read_on (leb 2 n && leb n 256) 7 e i in
    let both = (and-eq-true_iff (leb 2 n) (leb n 256)).0 on.0 in
    (leb-true 2 n both.0, leb-true n 256 both.1, on.1)

-- The options and the data behind an address of `at` bytes.
pub record Sent (p : List ℕ) (address : Address) (at : ℕ) (r : Meaning Request Order) : Type 0 where
  pub options : Options
  pub end : ℕ
  pub encoded : Encoded option no_options at (drop at p) options end
  pub is : carrying (ExtendedRequest (record { address = address; response_id = byte_at p 2; options = options })) end ≡ r

module _ (p : List ℕ) (address : Address) (at : ℕ) {r : Meaning Request Order} (is : IsMessage r) where
  sent_as : (q : Opted) → options_from option no_options at (drop at p) ≡ q → request_as q p address ≡ r → Sent p address at r
  sent_as bad s e = absurd (subst IsMessage (sym e) is)
  sent_as (opted o end) s e =
      record { options = o; end = end; encoded = encoded (drop at p) option no_options at o end tt refl s; is = e }

  sent : request_at p address at ≡ r → Sent p address at r
  unfolding request_at
  sent e = sent_as (options_from option no_options at (drop at p)) refl e

-- The ways in which a payload to the module is read as a message r.
pub data ToWay (p : List ℕ) (r : Meaning Request Order) : Type 0 where
  simple : 2 ≤ length p → is_plain (byte_at p 0) ≡ true → ltb (byte_at p 1) 0x80 ≡ true →
      carrying (SimpleRequest (record { address = byte_at p 0; command = byte_at p 1 })) 2 ≡ r → ToWay p r
  changed : is_plain (byte_at p 0) ≡ true → byte_at p 1 ≡ 0x80 → length p ≡ 15 → byte_at p 2 ≡ 0x01 → long_at p 7 ≡ 0 → long_at p 11 ≡ 0 →
      bare (change (record { address = byte_at p 0; signals = word_at p 3; mask = word_at p 5 })) ≡ r → ToWay p r
  to_plain : is_plain (byte_at p 0) ≡ true → byte_at p 1 ≡ 0xA0 → 3 ≤ length p → Sent p (Plain (byte_at p 0)) 3 r → ToWay p r
  to_extended_lem : byte_at p 0 ≡ 0x80 → byte_at p 1 ≡ 0xA0 → 7 ≤ length p → is_extended (long_at p 3) ≡ true → Sent p (ExtendedAddress (long_at p 3)) 7 r →
      ToWay p r
  settings : 2 ≤ length p → byte_at p 0 ≡ 0xDB → byte_at p 1 ≡ 0xF2 → is_list (drop 2 p) ≡ true → carrying SettingsRequest 2 ≡ r → ToWay p r
  commanded : (c : SetupCommand) → byte_at p 0 ≡ 0xDB → byte_at p 1 ≡ command_number c → length p ≡ 2 → bare (setup c) ≡ r → ToWay p r

-- A number that names a command is the command's number.
abbrev Names : ℕ → Option SetupCommand → Type 0
Names n None = Unit {0}
Names n (Some c) = n ≡ command_number c

named_first : (n : ℕ) (c : SetupCommand) (q : Option SetupCommand) (t : Bool) → eqb n (command_number c) ≡ t → Names n q → Names n (cond t (Some c) q)
named_first n c q true e h = eqb-true n (command_number c) e
named_first n c q false e h = h

named_is : (cs : List SetupCommand) (n : ℕ) → Names n (named cs n)
named_is [] n = tt
named_is (c ∷ cs) n = named_first n c (named cs n) (eqb n (command_number c)) refl (named_is cs n)

module _ (p : List ℕ) {r : Meaning Request Order} (is : IsMessage r) where
  change_way : is_plain (byte_at p 0) ≡ true → byte_at p 1 ≡ 0x80 → output_change_at p ≡ r → ToWay p r
  unfolding output_change_at
  change_way plain command e =
      let fits = read_on (eqb (length p) 15) 7 e is in
      let fixed = read_on (eqb (byte_at p 2) 0x01 && (eqb (long_at p 7) 0 && eqb (long_at p 11) 0)) 11 fits.1 is in
      let first = (and-eq-true_iff (eqb (byte_at p 2) 0x01) (eqb (long_at p 7) 0 && eqb (long_at p 11) 0)).0 fixed.0 in
      let others = (and-eq-true_iff (eqb (long_at p 7) 0) (eqb (long_at p 11) 0)).0 first.1 in
      changed
      plain
      command
      (eqb-true (length p) 15 fits.0)
      (eqb-true (byte_at p 2) 0x01 first.0)
      (eqb-true (long_at p 7) 0 others.0)
      (eqb-true (long_at p 11) 0 others.1)
      fixed.1

  plain_way : 2 ≤ length p → is_plain (byte_at p 0) ≡ true → to_plain_address p ≡ r → ToWay p r
  unfolding to_plain_address
  plain_way two plain e =
      choose (ltb (byte_at p 1) 0x80) e (simple two plain)
      (λ high on.
      choose (eqb (byte_at p 1) 0x80) on (λ command. change_way plain (eqb-true (byte_at p 1) 0x80 command))
      (λ other rest.
      let extended = read_on (eqb (byte_at p 1) 0xA0) 9 rest is in
      let long = read_on (leb 3 (length p)) 7 extended.1 is in
      to_plain plain (eqb-true (byte_at p 1) 0xA0 extended.0) (leb-true 3 (length p) long.0) (sent p (Plain (byte_at p 0)) 3 is long.1)))

  extended_way : byte_at p 0 ≡ 0x80 → to_extended_address p ≡ r → ToWay p r
  unfolding to_extended_address
  extended_way place e =
      let command = read_on (eqb (byte_at p 1) 0xA0) 9 e is in
      let long = read_on (leb 7 (length p)) 7 command.1 is in
      let extended = read_on (is_extended (long_at p 3)) 8 long.1 is in
      to_extended_lem place (eqb-true (byte_at p 1) 0xA0 command.0) (leb-true 7 (length p) long.0) extended.0
      (sent p (ExtendedAddress (long_at p 3)) 7 is extended.1)

  address_way : 2 ≤ length p → to_address p ≡ r → ToWay p r
  unfolding to_address
  address_way two e =
      choose (eqb (byte_at p 0) 0x80) e (λ place. extended_way (eqb-true (byte_at p 0) 0x80 place))
      (λ other on. let plain = read_on (is_plain (byte_at p 0)) 8 on is in plain_way two plain.0 plain.1)

  command_way : byte_at p 0 ≡ 0xDB → (q : Option SetupCommand) → Names (byte_at p 1) q → command_as q p ≡ r → ToWay p r
  command_way place (Some c) names e =
      let long = read_on (eqb (length p) 2) 7 e is in
      commanded c place names (eqb-true (length p) 2 long.0) long.1
  command_way place None names e = absurd (subst IsMessage (sym e) is)

  itself_way : 2 ≤ length p → byte_at p 0 ≡ 0xDB → to_itself p ≡ r → ToWay p r
  unfolding to_itself command_of
  itself_way two place e =
      choose (eqb (byte_at p 1) 0xF2) e
      (λ list on.
      let listed = read_on (is_list (drop 2 p)) 17 on is in
      settings two place (eqb-true (byte_at p 1) 0xF2 list) listed.0 listed.1)
      (λ other. command_way place (command_of (byte_at p 1)) (named_is commands (byte_at p 1)))

  pub to_way : read_to_module p ≡ r → ToWay p r
  unfolding read_to_module
  to_way e =
      let range = in_range (length p) e is in
      choose (eqb (byte_at p 0) 0xDB) range.2 (λ place. itself_way range.0 (eqb-true (byte_at p 0) 0xDB place))
      (λ other. address_way range.0)

  -- Its length.
  pub to_sized : read_to_module p ≡ r → (2 ≤ length p) × (length p ≤ 256)
  unfolding read_to_module
  to_sized e = let range = in_range (length p) e is in (range.0, range.1)

-- The ways in which a payload from the module is read as a message r.
pub data FromWay (p : List ℕ) (r : Meaning Delivery Notice) : Type 0 where
  simple : 2 ≤ length p → is_plain (byte_at p 0) ≡ true → ltb (byte_at p 1) 0x80 ≡ true →
      carrying (SimpleDelivery (record { address = byte_at p 0; command = byte_at p 1 })) 2 ≡ r → FromWay p r
  failure : byte_at p 0 ≡ 0xDB → byte_at p 1 ≡ 0xA1 → length p ≡ 4 → byte_at p 3 ≡ 0 →
      bare (IsResponse (record { id = byte_at p 2; outcome = Failure })) ≡ r → FromWay p r
  success : byte_at p 0 ≡ 0xDB → byte_at p 1 ≡ 0xA1 → length p ≡ 4 → byte_at p 3 ≡ 1 →
      bare (IsResponse (record { id = byte_at p 2; outcome = Success })) ≡ r → FromWay p r
  standard : is_plain (byte_at p 0) ≡ true → byte_at p 1 ≡ 0x81 → length p ≡ 23 → byte_at p 3 ≡ 0x01 → bare (Standard (standard_at p)) ≡ r →
      FromWay p r
  remote : is_plain (byte_at p 0) ≡ true → byte_at p 1 ≡ 0x81 → length p ≡ 20 → byte_at p 2 ≡ 0x0F → byte_at p 3 ≡ 0x01 →
      bare (Remote (remote_at p)) ≡ r → FromWay p r
  extended : is_plain (byte_at p 0) ≡ true → byte_at p 1 ≡ 0xA0 → 14 ≤ length p → word_at p 12 ≡ length p - 14 →
      carrying
      (ExtendedDelivery
      (record { sender = byte_at p 0; response_id = byte_at p 2; source = long_at p 3; destination = long_at p 7; lqi = byte_at p 11 }))
      14
      ≡ r → FromWay p r
  acknowledged : byte_at p 0 ≡ 0xDB → byte_at p 1 ≡ 0xF0 → length p ≡ 3 → byte_at p 2 ≡ 0x01 → bare (Setup Acknowledged) ≡ r → FromWay p r
  information : byte_at p 0 ≡ 0xDB → byte_at p 1 ≡ 0xF1 → length p ≡ 17 → bare (Setup (IsInformation (information_at p))) ≡ r → FromWay p r
  failed : byte_at p 0 ≡ 0xDB → byte_at p 1 ≡ 0xF3 → length p ≡ 3 → byte_at p 2 ≡ 0xFF → bare (Setup SettingsFailed) ≡ r → FromWay p r
  settings : 2 ≤ length p → byte_at p 0 ≡ 0xDB → byte_at p 1 ≡ 0xF3 → is_list (drop 2 p) ≡ true → carrying SettingsDelivery 2 ≡ r → FromWay p r
  control : byte_at p 0 ≡ 0xDB → byte_at p 1 ≡ 0xF8 → length p ≡ 4 → byte_at p 2 ≡ 0x11 → byte_at p 3 ≤ 1 →
      bare (Setup (SilentMode (eqb (byte_at p 3) 1))) ≡ r → FromWay p r

module _ (p : List ℕ) {r : Meaning Delivery Notice} (is : IsMessage r) where
  response_way : byte_at p 0 ≡ 0xDB → byte_at p 1 ≡ 0xA1 → response_meaning p ≡ r → FromWay p r
  unfolding response_meaning
  response_way place command e =
      let long = read_on (eqb (length p) 4) 7 e is in
      let four = eqb-true (length p) 4 long.0 in
      choose (eqb (byte_at p 3) 0) long.1 (λ fails. failure place command four (eqb-true (byte_at p 3) 0 fails))
      (λ other on.
      let succeeds = read_on (eqb (byte_at p 3) 1) 11 on is in
      success place command four (eqb-true (byte_at p 3) 1 succeeds.0) succeeds.1)

  ack_way : byte_at p 0 ≡ 0xDB → byte_at p 1 ≡ 0xF0 → ack_meaning p ≡ r → FromWay p r
  unfolding ack_meaning
  ack_way place command e =
      let long = read_on (eqb (length p) 3) 7 e is in
      let fixed = read_on (eqb (byte_at p 2) 0x01) 11 long.1 is in
      acknowledged place command (eqb-true (length p) 3 long.0) (eqb-true (byte_at p 2) 0x01 fixed.0) fixed.1

  information_way : byte_at p 0 ≡ 0xDB → byte_at p 1 ≡ 0xF1 → information_meaning p ≡ r → FromWay p r
  unfolding information_meaning
  information_way place command e =
      let long = read_on (eqb (length p) 17) 7 e is in
      information place command (eqb-true (length p) 17 long.0) long.1

  settings_way : 2 ≤ length p → byte_at p 0 ≡ 0xDB → byte_at p 1 ≡ 0xF3 → settings_meaning p ≡ r → FromWay p r
  unfolding settings_meaning
  settings_way two place command e =
      choose (eqb (length p) 3 && eqb (byte_at p 2) 0xFF) e
      (λ fails.
      let both = (and-eq-true_iff (eqb (length p) 3) (eqb (byte_at p 2) 0xFF)).0 fails in
      failed place command (eqb-true (length p) 3 both.0) (eqb-true (byte_at p 2) 0xFF both.1))
      (λ other on.
      let listed = read_on (is_list (drop 2 p)) 17 on is in
      settings two place command listed.0 listed.1)

  control_way : byte_at p 0 ≡ 0xDB → byte_at p 1 ≡ 0xF8 → control_meaning p ≡ r → FromWay p r
  unfolding control_meaning
  control_way place command e =
      let long = read_on (eqb (length p) 4) 7 e is in
      let fixed = read_on (eqb (byte_at p 2) 0x11 && leb (byte_at p 3) 1) 11 long.1 is in
      let both = (and-eq-true_iff (eqb (byte_at p 2) 0x11) (leb (byte_at p 3) 1)).0 fixed.0 in
      control
      place
      command
      (eqb-true (length p) 4 long.0)
      (eqb-true (byte_at p 2) 0x11 both.0)
      (leb-true (byte_at p 3) 1 both.1)
      fixed.1

  from_itself_way : 2 ≤ length p → byte_at p 0 ≡ 0xDB → from_itself p ≡ r → FromWay p r
  unfolding from_itself
  from_itself_way two place e =
      choose (eqb (byte_at p 1) 0xA1) e (λ a1. response_way place (eqb-true (byte_at p 1) 0xA1 a1))
      (λ n e1.
      choose (eqb (byte_at p 1) 0xF0) e1 (λ f0. ack_way place (eqb-true (byte_at p 1) 0xF0 f0))
      (λ n e2.
      choose (eqb (byte_at p 1) 0xF1) e2 (λ f1. information_way place (eqb-true (byte_at p 1) 0xF1 f1))
      (λ n e3.
      choose (eqb (byte_at p 1) 0xF3) e3 (λ f3. settings_way two place (eqb-true (byte_at p 1) 0xF3 f3))
      (λ n e4.
      let f8 = read_on (eqb (byte_at p 1) 0xF8) 9 e4 is in
      control_way place (eqb-true (byte_at p 1) 0xF8 f8.0) f8.1))))

  status_way : is_plain (byte_at p 0) ≡ true → byte_at p 1 ≡ 0x81 → status_meaning p ≡ r → FromWay p r
  unfolding status_meaning standard_meaning remote_meaning
  status_way plain command e =
      choose (eqb (length p) 23) e
      (λ long on.
      let fixed = read_on (eqb (byte_at p 3) 0x01) 11 on is in
      standard plain command (eqb-true (length p) 23 long) (eqb-true (byte_at p 3) 0x01 fixed.0) fixed.1)
      (λ other on.
      let long = read_on (eqb (length p) 20) 7 on is in
      let fixed = read_on (eqb (byte_at p 2) 0x0F && eqb (byte_at p 3) 0x01) 11 long.1 is in
      let both = (and-eq-true_iff (eqb (byte_at p 2) 0x0F) (eqb (byte_at p 3) 0x01)).0 fixed.0 in
      remote
      plain
      command
      (eqb-true (length p) 20 long.0)
      (eqb-true (byte_at p 2) 0x0F both.0)
      (eqb-true (byte_at p 3) 0x01 both.1)
      fixed.1)

  sender_way : 2 ≤ length p → is_plain (byte_at p 0) ≡ true → sender_meaning p ≡ r → FromWay p r
  unfolding sender_meaning reception_meaning
  sender_way two plain e =
      choose (ltb (byte_at p 1) 0x80) e (simple two plain)
      (λ high on.
      choose (eqb (byte_at p 1) 0x81) on (λ command. status_way plain (eqb-true (byte_at p 1) 0x81 command))
      (λ other rest.
      let command = read_on (eqb (byte_at p 1) 0xA0) 9 rest is in
      let long = read_on (leb 14 (length p)) 7 command.1 is in
      let count = read_on (eqb (word_at p 12) (length p - 14)) 12 long.1 is in
      extended
      plain
      (eqb-true (byte_at p 1) 0xA0 command.0)
      (leb-true 14 (length p) long.0)
      (eqb-true (word_at p 12) (length p - 14) count.0)
      count.1))

  pub from_way : read_from_module p ≡ r → FromWay p r
  unfolding read_from_module
  from_way e =
      let range = in_range (length p) e is in
      choose (eqb (byte_at p 0) 0xDB) range.2 (λ place. from_itself_way range.0 (eqb-true (byte_at p 0) 0xDB place))
      (λ other on. let plain = read_on (is_plain (byte_at p 0)) 8 on is in sender_way range.0 plain.0 plain.1)

  -- Its length.
  pub from_sized : read_from_module p ≡ r → (2 ≤ length p) × (length p ≤ 256)
  unfolding read_from_module
  from_sized e = let range = in_range (length p) e is in (range.0, range.1)
