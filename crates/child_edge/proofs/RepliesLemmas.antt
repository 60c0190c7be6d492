-- A reply that is sent on in one step and then in another.
use Rattle.std.proofs.Common.{◌≡◌, ℕ, List, [], ◌++◌, take, drop, Option, Some, None, refl, sym, ap, subst, ◌∙◌, append_assoc}
use Rattle.std.specs.Io.KnownBytes.{Appends, Consumes, Keeps}
use Rattle.std.proofs.KnownBytes.{Appends-trans, Consumes-nil, Consumes-trans}
use Rattle.std.proofs.lemmas.List.{append-nil, take-append-drop}
use Rattle.socket_demand.specs.Bytes.{Bytes}
use Rattle.child_edge.specs.declared.connection.Connection.{Connection}
use Rattle.child_edge.specs.declared.connection.Progress.{Progress}
use Rattle.child_edge.specs.declared.connection.Progress.TheVariants.{Waits, MayGoOn, Ended, Lost}
use Rattle.child_edge.specs.Replies.{Forwards, ForwardsIf, IsOpen, Sends, SendsPiece, WaitsOrLost}

-- a refused write sends nothing
pub keeps_nothing : (a b : Option (List ℕ)) → Keeps a b → Appends a b []
keeps_nothing None b kept = tt
keeps_nothing (Some xs) None kept = absurd kept
keeps_nothing (Some xs) (Some ys) kept = kept ∙ sym (append-nil xs)

module _ {C F : Type 0} (contents : C → Option (List ℕ)) where
  -- some first bytes of a piece were sent, and the others wait
  pub piece_sent : (piece : List ℕ) (count : ℕ) (old new : Connection C F) → Appends (contents old.client) (contents new.client) (take count piece) →
      new.exchange ≡ record old.exchange { unsent = drop count piece } → IsOpen old.exchange → SendsPiece contents piece None old new
  piece_sent piece count old new sends is stays = record {
    sent = take count piece;
    sends = sends;
    rest = drop count piece;
    joined = take-append-drop count piece;
    stops = (ap (λ (e : Bytes). e.unsent) is, (ap (λ (e : Bytes). e.is_request_whole) is ∙ stays.0, ap (λ (e : Bytes). e.is_reply_whole) is ∙ stays.1));
  }

module _ {C F : Type 0} (contents : C → Option (List ℕ)) (remaining : F → Option (List ℕ)) where
  -- nothing was read, and nothing sent
  pub sends_nothing : (old new : Connection C F) → Keeps (contents old.client) (contents new.client) → new.reply ≡ old.reply → Sends contents remaining old.exchange.unsent old new
  sends_nothing old new kept same = record {
    read = [];
    reads = subst (λ f. Consumes (remaining old.reply) (remaining f) []) (sym same) (Consumes-nil (remaining old.reply));
    sent = [];
    sends = keeps_nothing (contents old.client) (contents new.client) kept;
    joined = sym (append-nil old.exchange.unsent);
  }

  pub forwards_nothing : (progress : Progress) (old new : Connection C F) → WaitsOrLost progress → Keeps (contents old.client) (contents new.client) →
      new.exchange ≡ old.exchange → new.reply ≡ old.reply → IsOpen old.exchange → Forwards contents remaining progress old new
  forwards_nothing Waits old new either kept is same stays =
      (subst (λ (e : Bytes). Sends contents remaining e.unsent old new) (sym is) (sends_nothing old new kept same), subst IsOpen (sym is) stays)
  forwards_nothing MayGoOn old new either kept is same stays = absurd either
  forwards_nothing Ended old new either kept is same stays = absurd either
  forwards_nothing (Lost why) old new either kept is same stays = (old.exchange.unsent, sends_nothing old new kept same)

  -- a piece was read, and then sent
  passed : (piece : List ℕ) (r : F) (rest : List ℕ) (sent : List ℕ) (old new : Connection C F) → old.exchange.unsent ≡ [] → Consumes (remaining old.reply) (remaining r) piece →
      new.reply ≡ r → Appends (contents old.client) (contents new.client) sent → sent ++ rest ≡ piece → Sends contents remaining rest old new
  passed piece r rest sent old new none reads same sends joined = record {
    read = piece;
    reads = subst (λ f. Consumes (remaining old.reply) (remaining f) piece) (sym same) reads;
    sent = sent;
    sends = sends;
    joined = joined ∙ sym (ap (λ l. l ++ piece) none);
  }

  pub passed_on : (piece : List ℕ) (r : F) (stop : Option Progress) (old new : Connection C F) → old.exchange.unsent ≡ [] → Consumes (remaining old.reply) (remaining r) piece →
      new.reply ≡ r → SendsPiece contents piece stop (record old { reply = r }) new → ForwardsIf contents remaining stop old new
  passed_on piece r None old new none reads same s =
      (passed piece r new.exchange.unsent s.sent old new none reads same s.sends (ap (λ l. s.sent ++ l) s.stops.0 ∙ s.joined), s.stops.1)
  passed_on piece r (Some Waits) old new none reads same s = absurd s.stops
  passed_on piece r (Some MayGoOn) old new none reads same s = absurd s.stops
  passed_on piece r (Some Ended) old new none reads same s = absurd s.stops
  passed_on piece r (Some (Lost why)) old new none reads same s = (s.rest, passed piece r s.rest s.sent old new none reads same s.sends s.joined)

  sends_then : {rest : List ℕ} (old mid new : Connection C F) → Sends contents remaining mid.exchange.unsent old mid → Sends contents remaining rest mid new → Sends contents remaining rest old new
  sends_then {rest} old mid new first second = record {
    read = first.read ++ second.read;
    reads = Consumes-trans (remaining old.reply) (remaining mid.reply) (remaining new.reply) first.read second.read first.reads second.reads;
    sent = first.sent ++ second.sent;
    sends = Appends-trans (contents old.client) (contents mid.client) (contents new.client) first.sent second.sent first.sends second.sends;
    joined = append_assoc first.sent second.sent rest ∙ ap (λ l. first.sent ++ l) second.joined
        ∙ sym (append_assoc first.sent mid.exchange.unsent second.read) ∙ ap (λ l. l ++ second.read) first.joined
        ∙ append_assoc old.exchange.unsent first.read second.read;
  }

  pub forwards_then : (progress : Progress) (old mid new : Connection C F) → Forwards contents remaining MayGoOn old mid → Forwards contents remaining progress mid new → Forwards contents remaining progress old new
  forwards_then Waits old mid new first second = (sends_then old mid new first.0 second.0, second.1)
  forwards_then MayGoOn old mid new first second = (sends_then old mid new first.0 second.0, second.1)
  forwards_then Ended old mid new first second = (sends_then old mid new first.0 second.0, second.1)
  forwards_then (Lost why) old mid new first second = (second.0, sends_then old mid new first.0 second.1)
