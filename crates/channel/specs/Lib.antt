pub mod PulsesLaws
