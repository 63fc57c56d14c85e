use Rattle.nats_text.specs.SameHeaders.{same_headers_decides}
use Rattle.nats_text.specs.SameMessages.{same_message_decides, same_parcel_decides}
use Rattle.nats_text.proofs.laws.equal_values.Goals as goal

pub returns-clause-headers : goal.returns-clause-headers
returns-clause-headers c = same_headers_decides

pub returns-clause-messages : goal.returns-clause-messages
returns-clause-messages c = same_message_decides

pub returns-clause-parcels : goal.returns-clause-parcels
returns-clause-parcels c = same_parcel_decides
